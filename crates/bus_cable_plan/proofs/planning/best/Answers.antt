use Rattle.std.proofs.Common.{arith, sym, ◌≡◌, ◌+◌, ◌∙◌, ℕ, false, subst}
use Rattle.bus_table.proofs.ValidLaws.{valid_facts}
use Rattle.bus_cable_plan.specs.Answers.{is_found}
use Rattle.bus_cable_plan.proofs.Rising.{long_unfound, best_is}
use Rattle.bus_cable_plan.proofs.planning.best.Goals as goal

pub loop-above-init : goal.loop-above-init
loop-above-init c =
    let facts = valid_facts c.args.table.now c.ti-above.ensures.valid in
    let ti = c.ti-above.ensures.value in
    let least = facts.ti_least in
    let some = facts.some in
    let several = c.requires.several in
    record {
      found_is = c.requires.some;
      above_is = long_unfound c.ti-above.result c.args.table.now c.ti-above.ensures.valid c.requires.periodic (omega (arith, some, several))
          (omega (arith, ti));
      less = omega (arith, ti, least);
      bound = omega (arith, ti);
    }

pub overflow_sub-above : goal.overflow_sub-above
overflow_sub-above c = let less = c.loop-above.invariant.less in omega (arith, less)

pub is_found-requires-clause-most : goal.is_found-requires-clause-most
is_found-requires-clause-most c =
    let most = (valid_facts c.args.table.now c.ti-above.ensures.valid).ti_most in
    let bound = c.loop-above.invariant.bound in
    let more = c.loop-above-test.true in
    omega (arith, most, bound, more)

pub loop-above-preserved-then-is_found : goal.loop-above-preserved-then-is_found
loop-above-preserved-then-is_found c =
    let more = c.loop-above-test.true in
    record {
      found_is = sym c.is_found.ensures ∙ c.if-is_found.true;
      above_is = c.loop-above.invariant.above_is;
      less = omega (arith, more);
      bound = c.loop-above.invariant.bound;
    }

pub loop-above-preserved : goal.loop-above-preserved
loop-above-preserved c =
    let more = c.loop-above-test.true in
    let bound = c.loop-above.invariant.bound in
    record {
      found_is = c.loop-above.invariant.found_is;
      above_is = sym c.is_found.ensures ∙ c.if-is_found.false;
      less = omega (arith, more);
      bound = omega (arith, more, bound);
    }

pub returns-clause-value : goal.returns-clause-value
returns-clause-value c =
    let facts = valid_facts c.args.table.now c.ti-above.ensures.valid in
    let some = facts.some in
    let several = c.requires.several in
    let less = c.loop-above.invariant.less in
    let bound = c.loop-above.invariant.bound in
    let test = c.loop-above-test.false in
    let next : c.loop-above.above ≡ c.loop-above.borne + 1 = omega (arith, less, test) in
    best_is c.loop-above.borne c.args.table.now c.ti-above.ensures.valid c.requires.periodic (omega (arith, some, several))
    (omega (arith, less, bound)) c.loop-above.invariant.found_is
    (subst (λ (n : ℕ). is_found n c.args.table.now ≡ false) next c.loop-above.invariant.above_is)

pub returns-clause-bound : goal.returns-clause-bound
returns-clause-bound c =
    let less = c.loop-above.invariant.less in let bound = c.loop-above.invariant.bound in omega (arith, less, bound)
