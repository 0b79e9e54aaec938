-- The greatest number that a test takes.
use Rattle.std.specs.Prelude.{◌≡◌, ℕ, zero, suc, ◌≤◌, Bool, true, if◌then◌else◌}

-- The greatest number up to this one that a test takes, and 0 where it takes none.
abbrev pub greatest_to : (ℕ → Bool) → ℕ → ℕ
greatest_to test zero = zero
greatest_to test (suc n) = if test (suc n) then suc n else greatest_to test n

-- This number up to the limit is taken, and none that is greater, whatever smaller ones do.
pub record IsGreatest (test : ℕ → Bool) (limit n : ℕ) : Type 0 where
  pub most : n ≤ limit
  pub kept : test n ≡ true
  pub greatest : (m : ℕ) → m ≤ limit → test m ≡ true → m ≤ n
