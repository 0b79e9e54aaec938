use Rattle.std.proofs.Common.{◌||◌, ap, sym, ◌∙◌}
use Rattle.std.specs.List.{list_any}
use Rattle.bus_table.specs.Whole.{same_pair}
use Rattle.bus_table.proofs.WholeLemmas.{any_pair}
use Rattle.bus_table.proofs.whole.has_send_line.Goals as goal

pub returns-then-is_sent : goal.returns-then-is_sent
returns-then-is_sent c =
    c.if-is_sent.true ∙ sym (any_pair c.args.senders.now c.args.lines.now c.args.line.now ∙ ap (λ b. b || list_any (λ other. same_pair other c.args.line.now) c.args.lines.now) (sym c.if-is_sent.ensures))

pub returns-else-is_sent : goal.returns-else-is_sent
returns-else-is_sent c =
    c.has_pair.ensures ∙ sym (any_pair c.args.senders.now c.args.lines.now c.args.line.now ∙ ap (λ b. b || list_any (λ other. same_pair other c.args.line.now) c.args.lines.now) (sym c.if-is_sent.ensures))
