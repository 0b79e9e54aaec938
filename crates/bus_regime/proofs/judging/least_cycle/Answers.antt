use Rattle.std.proofs.Common.{arith, ap, length, ◌≡◌}
use Rattle.bus_table.proofs.ValidLaws.{valid_facts}
use Rattle.bus_regime.proofs.judging.least_cycle.Goals as goal

pub overflow_add-sum-in-loop-sender : goal.overflow_add-sum-in-loop-sender
overflow_add-sum-in-loop-sender c =
    let facts = valid_facts c.args.table.now c.senders-sender-items.ensures.valid in
    let same : length c.senders-sender-items.result.now ≡ length c.args.table.now.senders = ap length c.senders-sender-items.ensures.value in
    omega (arith, facts.few, c.loop-sender.invariant.1, c.loop-sender-test.true, same, c.shortest.ensures.bound)
