-- A pace so slow that sums with it are told in 64 bits.
use Rattle.std.specs.Prelude.{◌^◌, ◌≤◌, IfSome}
use Rattle.bus_facts.specs.declared.pace.Pace.{Pace}

-- Both of its times are at most this many bit times.
pub record IsSlow (pace : Pace) : Type 0 where
  pub most : pace.most ≤ 2 ^ 40
  pub tolerance : IfSome pace.tolerance (λ d. d ≤ 2 ^ 40)
