use Rattle.std.proofs.Common.{arith}
use Rattle.bus_reach.proofs.RoomLemmas.{room_more}
use Rattle.bus_facts.proofs.StartLemmas.{is_waited, waited_by, whole_room, start_some, start_none}
use Rattle.bus_facts.proofs.starts.greatest_start.Goals as goal

pub loop-sender-preserved : goal.loop-sender-preserved
loop-sender-preserved c =
    room_more (is_waited c.sg-sg.result) c.senders-sender-items.result.now c.loop-sender.sender-index c.sender-item.result 128000 c.loop-sender.most c.min-most.result
    (omega (arith, c.loop-sender-test.true)) c.sender-item.is c.loop-sender.invariant
    (waited_by c.sg-sg.result c.sender-item.result c.loop-sender.most c.least_wait.result c.min-most.result c.least_wait.ensures c.min-most.ensures)

pub returns-then-most-from : goal.returns-then-most-from
returns-then-most-from c =
    start_some c.args.table.now c.loop-sender.most
    (whole_room c.args.table.now c.senders-sender-items.result.now c.sg-sg.result c.loop-sender.sender-index c.loop-sender.most c.senders-sender-items.ensures.value
    c.sg-sg.ensures.value (omega (arith, c.loop-sender-test.false)) c.loop-sender.invariant)
    (omega (arith, c.if-most-from.true, c.from.ensures))

pub returns-else-most-from : goal.returns-else-most-from
returns-else-most-from c =
    start_none c.args.table.now c.loop-sender.most
    (whole_room c.args.table.now c.senders-sender-items.result.now c.sg-sg.result c.loop-sender.sender-index c.loop-sender.most c.senders-sender-items.ensures.value
    c.sg-sg.ensures.value (omega (arith, c.loop-sender-test.false)) c.loop-sender.invariant)
    (omega (arith, c.if-most-from.false, c.from.ensures))
