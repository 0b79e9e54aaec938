use Rattle.std.proofs.Common.{ap, ◌∙◌}
use Rattle.std.specs.List.{list_any}
use Rattle.bus_feeds.specs.Feeds.{sender_takes, listener_takes}
use Rattle.bus_feeds.proofs.Takes.{with_sender, with_listeners}
use Rattle.bus_feeds.proofs.takers.is_taken.Goals as goal

pub returns-then-any_sender_takes : goal.returns-then-any_sender_takes
returns-then-any_sender_takes c =
    with_sender c.args.table.now c.args.number c.args.send.now c.any_sender_takes.result
    (c.any_sender_takes.ensures ∙ ap (list_any (sender_takes c.args.number c.args.send.now)) c.senders.ensures.value) c.if-any_sender_takes.true

pub returns-else-any_sender_takes : goal.returns-else-any_sender_takes
returns-else-any_sender_takes c =
    with_listeners c.args.table.now c.args.number c.args.send.now c.any_sender_takes.result c.any_listener_takes.result
    (c.any_sender_takes.ensures ∙ ap (list_any (sender_takes c.args.number c.args.send.now)) c.senders.ensures.value) c.if-any_sender_takes.false
    (c.any_listener_takes.ensures ∙ ap (list_any (listener_takes c.args.number c.args.send.now)) c.listeners.ensures.value)
