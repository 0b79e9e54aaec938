-- Columns of fixed widths, in which fields stand at the right. Each is wide enough for every number of its kind with two spaces before it,
-- so that no width depends on a table.
use Rattle.std.specs.Prelude.{ℕ, ◌-◌, ◌/◌, ◌%◌, ◌==◌, List, ◌++◌, length, replicate, codes, decimal, if◌then◌else◌}

-- A field at the right of a column.
abbrev pub column : ℕ → List ℕ → List ℕ
column width field = replicate (width - length field) 32 ++ field

-- The number of a terminal.
abbrev pub number_column : ℕ → List ℕ
number_column number = column 8 (decimal number)

-- The half of a microsecond in so many bit times, or none.
abbrev pub half_digit : ℕ → List ℕ
half_digit n = if n % 2 == 1 then codes ".5" else codes ".0"

-- A time in bit times, and in the next column in microseconds.
abbrev pub time_columns : ℕ → List ℕ
time_columns n = column 11 (decimal n) ++ column 7 (decimal (n / 2)) ++ half_digit n
