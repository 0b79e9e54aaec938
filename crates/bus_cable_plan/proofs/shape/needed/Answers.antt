use Rattle.std.proofs.Common.{arith, ap, length, ◌≡◌, ◌≤◌}
use Rattle.bus_table.proofs.ValidLaws.{valid_facts}
use Rattle.bus_cable_plan.proofs.shape.needed.Goals as goal

pub overflow_add-sum-in-loop-sender : goal.overflow_add-sum-in-loop-sender
overflow_add-sum-in-loop-sender c =
    let facts = valid_facts c.args.table.now c.senders-sender-items.ensures.valid in
    let same : length c.senders-sender-items.result.now ≡ length c.args.table.now.senders =
    ap length c.senders-sender-items.ensures.value in
    omega (arith, facts.few, c.loop-sender.invariant.1, c.loop-sender-test.true, same, c.longest.ensures.bound, c.gap_in.ensures.bound)

pub returns-clause-bound : goal.returns-clause-bound
returns-clause-bound c =
    let facts = valid_facts c.args.table.now c.senders-sender-items.ensures.valid in
    let few = facts.few in
    let same : length c.senders-sender-items.result.now ≡ length c.args.table.now.senders =
    ap length c.senders-sender-items.ensures.value in
    let within : c.loop-sender.sender-index ≤ length c.senders-sender-items.result.now = omega arith in
    omega (arith, few, c.loop-sender.invariant.1, same, within)
