use Rattle.std.proofs.Common.{arith, inl}
use Rattle.bus_margins.specs.Buses.{bus_of}
use Rattle.bus_margins_periodic.proofs.OrderLemmas.{slow_on, fast_on, held_more, held_end}
use Rattle.bus_margins_periodic.proofs.order.held_room.Goals as goal

pub loop-held-preserved : goal.loop-held-preserved
loop-held-preserved c = (
  held_more (bus_of c.args.bounds c.args.table.now) c.args.last c.args.late c.loop-held.held c.loop-held.least c.passed_room.result c.lesser-least.result
      c.loop-held.invariant.5 c.loop-held.invariant.0 c.passed_room.ensures c.lesser-least.ensures,
  slow_on (bus_of c.args.bounds c.args.table.now) c.args.late c.loop-held.held c.loop-held.slow c.long_step-slow.result c.loop-held.invariant.5
      c.loop-held.invariant.1 c.long_step-slow.ensures.value,
  fast_on (bus_of c.args.bounds c.args.table.now) c.args.late c.loop-held.held c.loop-held.fast c.short_step-fast.result c.loop-held.invariant.5
      c.loop-held.invariant.2 c.short_step-fast.ensures.value,
  omega (arith, c.loop-held.invariant.3, c.long_step-slow.ensures.bound, c.loop-held.invariant.5),
  omega (arith, c.loop-held.invariant.4, c.short_step-fast.ensures.bound, c.loop-held.invariant.5),
  omega (arith, c.loop-held.invariant.5),
  inl (omega (arith, c.loop-held-test.true)),
)

pub returns : goal.returns
returns c =
    held_end (bus_of c.args.bounds c.args.table.now) c.args.last c.args.late c.loop-held.held c.loop-held.least c.loop-held.invariant.6
    (omega (arith, c.loop-held-test.false)) c.loop-held.invariant.0
