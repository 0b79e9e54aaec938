use Rattle.std.proofs.Common.{arith, ap, ◌≡◌, length}
use Rattle.bus_table.proofs.ValidLaws.{valid_facts}
use Rattle.bus_cable_plan.proofs.laying.left_over.Goals as goal

pub overflow_cast-senders : goal.overflow_cast-senders
overflow_cast-senders c =
    let few = (valid_facts c.args.table.now c.senders.ensures.valid).few in
    let same : length c.senders.result.now ≡ length c.args.table.now.senders = ap length c.senders.ensures.value in
    omega (arith, few, same)
