-- Shares: a part of a whole, in tenths of a percent.
use Rattle.std.specs.Prelude.{ℕ, ◌+◌, ◌*◌, ◌/◌, ◌%◌, ◌<◌, ◌≤◌, List, ◌++◌, codes, decimal}

-- A share in tenths of a percent, rounded to the nearest, a half up.
abbrev pub tenths : ℕ → ℕ → ℕ
tenths part whole = (2000 * part + whole) / (2 * whole)

-- The same in words: `12.5 %`.
abbrev pub share_text : ℕ → List ℕ
share_text share = decimal (share / 10) ++ codes "." ++ decimal (share % 10) ++ codes " %"

-- A share of something is the nearest number of tenths of a percent, where two are as near the greater: twice the whole times it is at most
-- two thousand times the part and the whole, and with one more it is greater.
abbrev pub SharesAreNearest : Type 0
SharesAreNearest =
    (part whole : ℕ) → 0 < whole
    → (2 * whole * tenths part whole ≤ 2000 * part + whole) × (2000 * part + whole < 2 * whole * (tenths part whole + 1))
