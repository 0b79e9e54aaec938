use Rattle.std.proofs.Common.{arith, ◌≡◌, length, ap}
use Rattle.bus_table.specs.Turns.{turn_order}
use Rattle.bus_table.proofs.TurnLaws.{order_length}
use Rattle.bus_made.proofs.Places.{number_behind, number_there}
use Rattle.bus_made.proofs.answer.number_at.Goals as goal

pub returns-then-k-senders : goal.returns-then-k-senders
returns-then-k-senders c = number_there (turn_order c.args.table.now) c.args.k c.place.result c.place.ensures

pub returns-else-k-senders : goal.returns-else-k-senders
returns-else-k-senders c =
    let many = order_length c.args.table.now in
    let same : length c.senders.result.now ≡ length c.args.table.now.senders = ap length c.senders.ensures.value in
    let over = c.if-k-senders.false in
    number_behind (turn_order c.args.table.now) c.args.k (omega (arith, many, same, over))
