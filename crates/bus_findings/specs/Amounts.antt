-- Words for amounts.
use Rattle.std.specs.Prelude.{ℕ, zero, suc, ◌<◌, ◌≤◌, max, Bool, List, [], ◌∷◌, Option, if◌then◌else◌}
use Rattle.std.specs.List.{find, range_with_len}

-- The amount of what is so by n or more: the greatest such n, and 0 where it isn't so by 1 or more.
pub record IsAmount (P : ℕ → Type 0) (n : ℕ) : Type 0 where
  pub so : 0 < n → P n
  pub most : (m : ℕ) → 0 < m → P m → m ≤ n

-- The greatest number that a function gives of these, and 0 where there are none.
abbrev pub greatest : {X : Type 0} → (X → ℕ) → List X → ℕ
greatest f [] = 0
greatest f (x ∷ xs) = max (f x) (greatest f xs)

-- The greatest number up to this one that passes a test, and 0 where none does.
unfoldable pub greatest_to : (ℕ → Bool) → ℕ → ℕ
greatest_to test zero = zero
greatest_to test (suc n) = if test (suc n) then suc n else greatest_to test n

-- The least number below this one that passes a test.
unfoldable pub first_below : (ℕ → Bool) → ℕ → Option ℕ
first_below test n = find test (range_with_len 0 n)
