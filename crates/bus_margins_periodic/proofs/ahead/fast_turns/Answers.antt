use Rattle.std.proofs.Common.{◌≡◌, ◌≤◌, ◌^◌, arith, ◌∙◌}
use Rattle.std.proofs.lemmas.List.{length-set}
use Rattle.bus_drift.specs.Turns.{fastest}
use Rattle.bus_margins.specs.Buses.{bus_of}
use Rattle.bus_margins_periodic.proofs.AheadLemmas.{told_more}
use Rattle.bus_margins_periodic.proofs.OrderLemmas.{fast_on}
use Rattle.bus_margins_periodic.proofs.ahead.fast_turns.Goals as goal

pub loop-due-preserved : goal.loop-due-preserved
loop-due-preserved c = record {
  size = length-set _ _ _ ∙ c.loop-due.invariant.size;
  told = told_more (λ j fast. fast ≡ fastest (bus_of c.args.bounds c.args.table.now) 0 j) c.loop-due.turns c.loop-due.due c.loop-due.fast
      (omega (arith, c.loop-due.invariant.size, c.loop-due-test.true, c.count-due-end.ensures.few)) c.loop-due.invariant.told c.loop-due.invariant.fast;
  bound = told_more (λ j fast. fast ≤ 2 ^ 40) c.loop-due.turns c.loop-due.due c.loop-due.fast
      (omega (arith, c.loop-due.invariant.size, c.loop-due-test.true, c.count-due-end.ensures.few)) c.loop-due.invariant.bound
      (omega (arith, c.loop-due.invariant.small, c.loop-due-test.true, c.count-due-end.ensures.few));
  fast = fast_on (bus_of c.args.bounds c.args.table.now) 0 c.loop-due.due c.loop-due.fast c.short_step-fast.result (omega arith) c.loop-due.invariant.fast
      c.short_step-fast.ensures.value;
  small = omega (arith, c.loop-due.invariant.small, c.short_step-fast.ensures.bound);
}
