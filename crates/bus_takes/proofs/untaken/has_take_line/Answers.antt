use Rattle.std.proofs.Common.{◌||◌, sym, ap, ◌∙◌}
use Rattle.std.specs.List.{list_any}
use Rattle.bus_takes.specs.Takes.{sender_has_take, listener_has_take}
use Rattle.bus_takes.proofs.untaken.has_take_line.Goals as goal

pub returns-then-any_sender_takes : goal.returns-then-any_sender_takes
returns-then-any_sender_takes c =
    let sent = c.any_sender_takes.ensures ∙ ap (list_any sender_has_take) c.senders.ensures.value in
    c.if-any_sender_takes.true ∙ ap (λ b. b || list_any listener_has_take c.args.table.now.listeners) (sym c.if-any_sender_takes.true ∙ sent)

pub returns-else-any_sender_takes : goal.returns-else-any_sender_takes
returns-else-any_sender_takes c =
    let sent = c.any_sender_takes.ensures ∙ ap (list_any sender_has_take) c.senders.ensures.value in
    let heard = c.any_listener_takes.ensures ∙ ap (list_any listener_has_take) c.listeners.ensures.value in
    heard ∙ ap (λ b. b || list_any listener_has_take c.args.table.now.listeners) (sym c.if-any_sender_takes.false ∙ sent)
