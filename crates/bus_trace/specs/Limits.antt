-- The limits of a trace text, and the greatest numbers of its lines, all of this project's profile. `src/limits.rt` has them too.
use Rattle.std.specs.Prelude.{ℕ, ◌+◌}
use Rattle.bus_strings.specs.Limits.{most_words}

-- The most bytes of a text.
abbrev pub trace_limit : ℕ
trace_limit = 67108864

-- The most bytes of a line before its line feed: those of a WS line with every word that it may have.
abbrev pub line_limit : ℕ
line_limit = 1801

-- The greatest count of a HOLD line: the last value of a u32.
abbrev pub most_count : ℕ
most_count = 4294967295

-- The most fields of a WS line: its keyword, a label word and the data words.
abbrev pub most_fields : ℕ
most_fields = 2 + most_words
