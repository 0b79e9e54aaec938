-- Times in words.
use Rattle.std.specs.Prelude.{ℕ, ◌==◌, List, ◌++◌, codes, decimal, if◌then◌else◌}
use Rattle.bus_strings.specs.Microseconds.{microseconds, microseconds_unit}

-- One bit time, or several.
abbrev pub bit_times : ℕ → List ℕ
bit_times n = if n == 1 then codes " bit time" else codes " bit times"

-- A time in bit times, and behind it in microseconds: `1030 bit times (515 µs)`.
abbrev pub time_text : ℕ → List ℕ
time_text n = decimal n ++ bit_times n ++ codes " (" ++ microseconds n ++ microseconds_unit ++ codes ")"

-- About so many bit times.
abbrev pub about_text : ℕ → List ℕ
about_text n = codes "about " ++ decimal n ++ bit_times n
