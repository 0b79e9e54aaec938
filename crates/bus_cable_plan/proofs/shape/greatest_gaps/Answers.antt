use Rattle.std.proofs.Common.{arith, ap, ◌≡◌, ◌<◌, length, get_or}
use Rattle.bus_table.specs.Tables.{Sender}
use Rattle.bus_cable_plan.proofs.Steps.{greatest_more, second_more}
use Rattle.bus_cable_plan.proofs.shape.greatest_gaps.Goals as goal

pub loop-sender-preserved : goal.loop-sender-preserved
loop-sender-preserved c =
    let here : c.loop-sender.sender-index < length c.args.senders.now = omega (arith, c.loop-sender-test.true) in
    let top = greatest_more c.args.senders.now c.loop-sender.sender-index c.sender-item.result here in
    let next = second_more c.args.senders.now c.loop-sender.sender-index c.sender-item.result here in
    let read : c.sender-item.result.tg ≡ (get_or c.args.senders.now c.loop-sender.sender-index c.sender-item.result).tg =
    ap (λ (s : Sender). s.tg) c.sender-item.is in
    let tg = c.tg-tg.ensures.value in
    let one = c.loop-sender.invariant.0 in
    let two = c.loop-sender.invariant.1 in
    let least = c.lesser.ensures in
    let most = c.greater-second.ensures in
    let first = c.greater-first.ensures in
    (omega (arith, top, read, tg, one, first), omega (arith, next, read, tg, one, two, least, most))
