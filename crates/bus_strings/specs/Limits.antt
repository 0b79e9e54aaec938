-- The limits of what is sent, and the bit times that words and quiet take, all of this project's profile.
-- Each has one home here, and one in `src/limits.rt`.
use Rattle.std.specs.Prelude.{ℕ, ◌^◌}

-- Every moment of a transmission is below it, and a trace goes no further than it.
abbrev pub horizon_limit : ℕ
horizon_limit = 2 ^ 40

-- The greatest terminal number; the least is 1.
abbrev pub most_terminal : ℕ
most_terminal = 128

-- The most wordstrings of a message; the least is 1.
abbrev pub most_strings : ℕ
most_strings = 31

-- The most data words of a wordstring; the least is 0.
abbrev pub most_words : ℕ
most_words = 256

-- The bit times of a word.
abbrev pub word_bits : ℕ
word_bits = 20

-- The quiet bit times between two wordstrings of a message.
abbrev pub inner_gap : ℕ
inner_gap = 4
