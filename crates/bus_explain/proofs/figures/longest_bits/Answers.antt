use Rattle.std.proofs.Common.{arith, ap, length, ◌≡◌}
use Rattle.bus_table.proofs.ValidLaws.{valid_facts}
use Rattle.bus_explain.proofs.figures.longest_bits.Goals as goal

pub overflow_add-bits : goal.overflow_add-bits
overflow_add-bits c =
    let facts = valid_facts c.args.table.now c.senders-sender-items.ensures.valid in
    let same : length c.senders-sender-items.result.now ≡ length c.args.table.now.senders = ap length c.senders-sender-items.ensures.value in
    omega (arith, facts.few, c.loop-sender.invariant.1, c.loop-sender-test.true, same, c.longest.ensures.bound)

pub returns-clause-bound : goal.returns-clause-bound
returns-clause-bound c =
    let facts = valid_facts c.args.table.now c.senders-sender-items.ensures.valid in
    let same : length c.senders-sender-items.result.now ≡ length c.args.table.now.senders = ap length c.senders-sender-items.ensures.value in
    omega (arith, facts.few, c.loop-sender.invariant.1, same)
