use Rattle.std.proofs.Common.{◌∙◌}
use Rattle.bus_schedule.specs.Even.{messages_of}
use Rattle.bus_schedule.proofs.EvenLemmas.{read_sender}
use Rattle.bus_schedule.proofs.OffsetEnds.{turn_end_more}
use Rattle.bus_schedule.proofs.end.round_end.Goals as goal

pub loop-k-preserved : goal.loop-k-preserved
loop-k-preserved c =
    let at = read_sender c.args.table.now c.senders-sender-items.result.now c.loop-k.k c.sender-item.result c.senders-sender-items.ensures.value c.loop-k-test.true c.sender-item.is in
    turn_end_more (messages_of c.args.hands.now) c.args.round c.args.base c.senders-sender-items.result.now c.loop-k.k c.loop-k.end c.later-end.result c.from.result c.from-in-loop-k.result c.sender-item.result c.message_at-message.result.now
    c.loop-k-test.true c.sender-item.is c.loop-k.invariant (c.from.ensures ∙ c.at.ensures.value) (c.from-in-loop-k.ensures ∙ c.bits.ensures.value) (c.message_at-message.ensures c.sender-item.result at) c.later-end.ensures
