use Rattle.std.proofs.Common.{arith}
use Rattle.bus_reach.proofs.WaitLemmas.{delays_small}
use Rattle.bus_reach.proofs.waiting.cycle_delay.Goals as goal

pub overflow_mul-result : goal.overflow_mul-result
overflow_mul-result c =
    omega (arith, delays_small c.args.table.now c.senders.result.now c.args.d c.senders.ensures.valid c.senders.ensures.value c.requires)

pub returns-else-senders-eq1-clause-bound : goal.returns-else-senders-eq1-clause-bound
returns-else-senders-eq1-clause-bound c = delays_small c.args.table.now c.senders.result.now c.args.d c.senders.ensures.valid c.senders.ensures.value c.requires
