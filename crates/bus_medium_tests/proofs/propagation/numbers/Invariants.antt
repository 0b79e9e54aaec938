use Rattle.std.proofs.Common.{ℕ, ◌≤◌}
use Rattle.bus_propagation.specs.Numbered.{numbered}
use Rattle.bus_medium_tests.proofs.propagation.numbers.Given as goal

abbrev pub invariant-loop-value : goal.invariant-loop-value
invariant-loop-value l = (n : ℕ) → numbered l.numbers.items n ≤ l.most
