use Rattle.std.proofs.Common.{List, map, subst}
use Rattle.bus_table.specs.Tables.{Listener, Sender}
use Rattle.bus_filter.specs.Received.{listener_taker, sender_taker}
use Rattle.bus_picture.specs.inside.Noting.{AreNoted}
use Rattle.bus_picture.proofs.TakingLemmas.{both_noted}
use Rattle.bus_picture.proofs.receivers.Receivers.new.Goals as goal

pub invariant_of-result : goal.invariant_of-result
invariant_of-result c =
    both_noted (map sender_taker c.args.table.now.senders) (map listener_taker c.args.table.now.listeners) c.note_senders.new.may
    c.note_listeners.new.may c.note_listeners.ensures.kept
    (subst (λ (senders : List Sender). AreNoted (map sender_taker senders) c.note_senders.new.may) c.senders.ensures.value c.note_senders.ensures.noted)
    (subst (λ (listeners : List Listener). AreNoted (map listener_taker listeners) c.note_listeners.new.may) c.listeners.ensures.value
    c.note_listeners.ensures.noted)
