use Rattle.std.proofs.Common.{◌≡◌, ◌++◌, List, take}
use Rattle.std.specs.List.{flat_map}
use Rattle.bus_vote.specs.Labels.{Channel}
use Rattle.bus_vote.specs.inside.Scans.{seen, line_channels}
use Rattle.bus_vote.proofs.scan.with_sender.Given as goal

-- the lines so far are seen
abbrev pub invariant-loop-line : goal.invariant-loop-line
invariant-loop-line l = (channels : List Channel) → l.fn.before ≡ seen channels
    → l.seen ≡ seen (channels ++ flat_map (line_channels l.label l.terminal) (take l.line-index l.lines))
