use Rattle.std.proofs.Common.{arith, inl, sym, ◌∙◌}
use Rattle.bus_margins.specs.Buses.{bus_of}
use Rattle.bus_margins_periodic.proofs.KeepingLemmas.{held_next, held_lacks, held_end}
use Rattle.bus_margins_periodic.proofs.OrderLemmas.{slow_on, fast_on}
use Rattle.bus_margins_periodic.proofs.keeping.held_holds.Goals as goal

pub returns-then-not-passed_holds : goal.returns-then-not-passed_holds
returns-then-not-passed_holds c =
    sym (held_lacks (bus_of c.args.bounds c.args.table.now) c.args.last c.args.late c.loop-held.held c.loop-held.invariant.5
    (omega (arith, c.loop-held-test.true)) (sym c.passed_holds.ensures ∙ c.if-not-passed_holds.true))

pub loop-held-preserved : goal.loop-held-preserved
loop-held-preserved c = (
  held_next (bus_of c.args.bounds c.args.table.now) c.args.last c.args.late c.loop-held.held c.loop-held.invariant.5 c.loop-held.invariant.0
      (sym c.passed_holds.ensures ∙ c.if-not-passed_holds.false),
  slow_on (bus_of c.args.bounds c.args.table.now) c.args.late c.loop-held.held c.loop-held.slow c.long_step-slow.result c.loop-held.invariant.5
      c.loop-held.invariant.1 c.long_step-slow.ensures.value,
  fast_on (bus_of c.args.bounds c.args.table.now) c.args.late c.loop-held.held c.loop-held.fast c.short_step-fast.result c.loop-held.invariant.5
      c.loop-held.invariant.2 c.short_step-fast.ensures.value,
  omega (arith, c.loop-held.invariant.3, c.long_step-slow.ensures.bound, c.loop-held.invariant.5),
  omega (arith, c.loop-held.invariant.4, c.short_step-fast.ensures.bound, c.loop-held.invariant.5),
  omega (arith, c.loop-held.invariant.5),
  inl (omega (arith, c.loop-held-test.true)),
)

pub returns : goal.returns
returns c =
    sym (held_end (bus_of c.args.bounds c.args.table.now) c.args.last c.args.late c.loop-held.held (omega (arith, c.loop-held-test.false)) c.loop-held.invariant.0)
