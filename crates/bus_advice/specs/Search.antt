-- The number nearest to a given one that passes a test, in one direction.
use Rattle.std.specs.Prelude.{ℕ, zero, suc, ◌+◌, ◌-◌, Bool, Option, Some, None, if◌then◌else◌}
use Rattle.bus_table.specs.Ranges.{most_ti}

-- No number of a table is greater than this, the greatest transmit interval.
abbrev pub greatest_number : ℕ
greatest_number = most_ti

-- The first of `count` numbers from `n` on that passes the test.
unfoldable pub first_from : (ℕ → Bool) → ℕ → ℕ → Option ℕ
first_from test n zero = None
first_from test n (suc count) = if test n then Some n else first_from test (n + 1) count

-- The least number that is not below `n` and passes the test.
abbrev pub least_from : (ℕ → Bool) → ℕ → Option ℕ
least_from test n = first_from test n (suc greatest_number - n)

-- The least number above `n` that passes the test.
abbrev pub least_above : (ℕ → Bool) → ℕ → Option ℕ
least_above test n = least_from test (n + 1)

-- The greatest number below `n` that passes the test.
unfoldable pub greatest_below : (ℕ → Bool) → ℕ → Option ℕ
greatest_below test zero = None
greatest_below test (suc n) = if test n then Some n else greatest_below test n
