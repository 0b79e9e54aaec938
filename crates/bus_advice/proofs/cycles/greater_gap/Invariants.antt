use Rattle.std.proofs.Common.{◌≡◌, ℕ, ◌<◌}
use Rattle.std.specs.Prelude.{false}
use Rattle.bus_advice.specs.Changes.{with_gap}
use Rattle.bus_advice.specs.Advices.{works}
use Rattle.bus_advice.proofs.cycles.greater_gap.Given as goal

-- no terminal gap so far works
abbrev pub invariant-loop-tg : goal.invariant-loop-tg
invariant-loop-tg l = (m : ℕ) → l.sender.tg < m → m < l.tg → works (with_gap l.sender.number m l.table) ≡ false
