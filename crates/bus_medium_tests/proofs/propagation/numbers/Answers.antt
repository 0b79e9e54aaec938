use Rattle.std.proofs.Common.{◌≤◌, ℕ, List, sym, subst}
use Rattle.bus_propagation.specs.Numbered.{numbered}
use Rattle.bus_propagation.proofs.NumberedLemmas.{numbered_push}
use Rattle.bus_medium_tests.proofs.propagation.numbers.Goals as goal

pub loop-value-preserved : goal.loop-value-preserved
loop-value-preserved c =
    let old : (n : ℕ) → numbered c.loop-value.numbers.items n ≤ c.args.most = c.loop-value.invariant in
    subst (λ (ns : List ℕ). (n : ℕ) → numbered ns n ≤ c.args.most) (sym c.in_ok-push-2.ensures.items) (numbered_push c.loop-value.numbers.items c.at_most.result c.args.most old c.at_most.ensures)
