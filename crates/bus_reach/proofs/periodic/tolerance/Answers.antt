use Rattle.std.proofs.Common.{◌+◌, length, sym, ap, ◌∙◌, arith}
use Rattle.bus_reach.proofs.Modes.{in_periodic}
use Rattle.bus_reach.proofs.Passes.{first_bound, greatest_is}
use Rattle.bus_reach.proofs.periodic.tolerance.Goals as goal

pub loop-above-init : goal.loop-above-init
loop-above-init c = record {
  borne = sym (in_periodic c.args.table.now 0 c.requires.mode) ∙ c.accepted_bear_zero.ensures.zero c.args.table.now c.senders.ensures.valid c.requires.accepted;
  above = first_bound c.args.table.now (c.saturating_sub-above.result + 1) (length c.senders.result.now) c.gap_at-first.result (ap length c.senders.ensures.value)
      c.if-senders-eq1.false c.gap_at-first.ensures (omega (arith, c.saturating_sub-above.ensures, c.end.ensures.value, c.begin.ensures.value));
  less = omega arith;
  bound = omega (arith, c.saturating_sub-above.ensures, c.end.ensures.bound);
}

pub returns-clause-greatest : goal.returns-clause-greatest
returns-clause-greatest c =
    greatest_is c.args.table.now c.loop-above.borne c.loop-above.above
    (λ less most low is. sym (in_periodic c.args.table.now less c.requires.mode)
    ∙ c.borne_for_less.ensures c.args.table.now less most c.senders.ensures.valid c.requires.accepted low (in_periodic c.args.table.now most c.requires.mode ∙ is))
    c.loop-above.invariant.borne c.loop-above.invariant.above (omega (arith, c.loop-above-test.false))
