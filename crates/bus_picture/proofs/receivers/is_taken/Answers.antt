use Rattle.std.proofs.Common.{Bool, ◌||◌, ◌==◌, ◌&&◌, ap, sym, ◌∙◌}
use Rattle.std.specs.List.{list_any}
use Rattle.bus_table.specs.Tables.{Listener}
use Rattle.bus_filter.specs.Received.{listener_taker}
use Rattle.bus_picture.specs.Takings.{does_take}
use Rattle.bus_picture.proofs.TakingLemmas.{by_kinds}
use Rattle.bus_picture.proofs.receivers.is_taken.Goals as goal

pub returns-then-any_sender : goal.returns-then-any_sender
returns-then-any_sender c =
    c.if-any_sender.true ∙ sym (by_kinds c.args.table.now c.args.sent.now c.args.string.now c.args.n
    ∙ ap (λ (b : Bool). b || list_any (λ (s : Listener). (s.number == c.args.n) && does_take c.args.sent.now c.args.string.now (listener_taker s)) c.args.table.now.listeners)
    (sym c.any_sender.ensures ∙ c.if-any_sender.true))

pub returns-else-any_sender : goal.returns-else-any_sender
returns-else-any_sender c =
    c.any_listener.ensures
    ∙ sym (by_kinds c.args.table.now c.args.sent.now c.args.string.now c.args.n
    ∙ ap (λ (b : Bool). b || list_any (λ (s : Listener). (s.number == c.args.n) && does_take c.args.sent.now c.args.string.now (listener_taker s)) c.args.table.now.listeners)
    (sym c.any_sender.ensures ∙ c.if-any_sender.false))
