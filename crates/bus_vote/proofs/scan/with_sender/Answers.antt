use Rattle.std.proofs.Common.{List, ◌++◌, ap, ◌∙◌}
use Rattle.std.specs.List.{flat_map}
use Rattle.std.proofs.lemmas.List.{take_all}
use Rattle.bus_vote.specs.Labels.{Channel}
use Rattle.bus_vote.specs.inside.Scans.{seen, line_channels}
use Rattle.bus_vote.proofs.ScanLemmas.{sender_lines}
use Rattle.bus_vote.proofs.scan.with_sender.Goals as goal

pub returns : goal.returns
returns c = λ channels e.
    c.loop-line.invariant channels e
    ∙ ap (λ lines. seen (channels ++ flat_map (line_channels c.args.label c.number-terminal.result) lines)) (take_all c.loop-line.line-index c.sends-lines.result.now c.loop-line-test.false)
    ∙ ap (λ (cs : List Channel). seen (channels ++ cs))
    (sender_lines c.args.label c.number-terminal.result c.args.sender.now c.sends-lines.result.now c.number-terminal.ensures.value c.sends-lines.ensures.value)
