use Rattle.std.proofs.Common.{◌==◌, ◌||◌, ap, sym, ◌∙◌}
use Rattle.std.specs.List.{list_any}
use Rattle.bus_table.proofs.WholeLemmas.{any_number}
use Rattle.bus_table.proofs.whole.has_number.Goals as goal

pub returns-then-has_sender : goal.returns-then-has_sender
returns-then-has_sender c =
    c.if-has_sender.true ∙ sym (any_number c.args.senders.now c.args.listeners.now c.args.number ∙ ap (λ b. b || list_any (λ l. l.number == c.args.number) c.args.listeners.now) (sym c.if-has_sender.ensures))

pub returns-else-has_sender : goal.returns-else-has_sender
returns-else-has_sender c =
    c.has_listener.ensures ∙ sym (any_number c.args.senders.now c.args.listeners.now c.args.number ∙ ap (λ b. b || list_any (λ l. l.number == c.args.number) c.args.listeners.now) (sym c.if-has_sender.ensures))
