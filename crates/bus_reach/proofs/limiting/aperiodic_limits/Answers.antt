use Rattle.std.proofs.Common.{arith, ap, length}
use Rattle.bus_regime.proofs.GapPlaces.{turn_in}
use Rattle.bus_reach.proofs.LimitLemmas.{next_longer, next_low, next_step, next_end}
use Rattle.bus_reach.proofs.limiting.aperiodic_limits.Goals as goal

pub least_limit-requires : goal.least_limit-requires
least_limit-requires c = turn_in c.args.table.now 0 c.turn_at.result.now c.turn_at.ensures

pub next_limit-requires-clause-longer : goal.next_limit-requires-clause-longer
next_limit-requires-clause-longer c =
    omega (arith, next_longer c.args.table.now c.loop-k.k c.turn_at-sender.result.now c.senders-count.ensures.valid c.requires c.turn_at-sender.ensures, c.next_gap.ensures)

pub next_limit-requires-clause-most : goal.next_limit-requires-clause-most
next_limit-requires-clause-most c = omega (arith, next_low c.args.table.now c.loop-k.k c.senders-count.ensures.valid, c.next_gap.ensures)

pub loop-k-preserved : goal.loop-k-preserved
loop-k-preserved c =
    next_step c.args.table.now c.loop-k.k c.turn_at-sender.result.now c.loop-k.limits.items c.push-in-loop-k.new.self.items _ c.next_limit.result c.next_gap.result
    c.turn_at-sender.ensures c.next_gap.ensures c.next_limit.ensures c.in_ok-push-2.ensures.items c.loop-k.invariant

pub returns : goal.returns
returns c =
    next_end c.args.table.now c.loop-k.k c.loop-k.limits.items _ (omega (arith, c.loop-k-test.false, ap length c.senders-count.ensures.value)) c.loop-k.invariant
