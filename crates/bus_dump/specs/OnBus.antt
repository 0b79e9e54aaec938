-- What a message has on the bus. Its bit times are counted from 0, its first.
use Rattle.std.specs.Prelude.{ℕ, ◌+◌, ◌-◌, ◌*◌, ◌/◌, ◌%◌, nat_lt, [], ◌∷◌, slice_index, Option, Some, None, if◌then◌else◌}
use Rattle.std.specs.Option.{option_map}
use Rattle.bus_words.specs.Words.{label_word}
use Rattle.bus_strings.specs.Limits.{word_bits, inner_gap}
use Rattle.bus_strings.specs.Messages.{Wordstring, Message, word_count}
pub use Rattle.bus_dump.specs.declared.shown.Shown.{Shown}

-- The bit times of sync at the front of a word.
abbrev pub sync_bits : ℕ
sync_bits = 3

-- The bit times of a wordstring.
abbrev pub string_bits : Wordstring → ℕ
string_bits string = word_bits * word_count string

-- Bit time `at` of a wordstring, counted from its first.
pub record Bit : Type 0 where
  pub string : Wordstring
  pub at : ℕ

-- What a message has at bit time d: a bit time of its first wordstring, as long as that lasts, then nothing for an inner gap, and then
-- what the rest of its wordstrings has.
abbrev pub bit_at : Message → ℕ → Option Bit
bit_at [] d = None
bit_at (string ∷ strings) d =
    if nat_lt d (string_bits string) then Some (record { string = string; at = d })
    else (if nat_lt d (string_bits string + inner_gap) then None else bit_at strings (d - (string_bits string + inner_gap)))

-- The value of the label word of a wordstring.
abbrev pub label_value : Wordstring → ℕ
label_value string = (label_word string.label string.ext).value

-- Word k of a wordstring, from 0: its label word, then its data words.
abbrev pub word_at : Wordstring → ℕ → ℕ
word_at string k = slice_index (label_value string ∷ string.words) k

-- What is shown at a bit time of a wordstring: its label word, the word that is on, and whether that is in its sync.
abbrev pub shown_of : Bit → Shown
shown_of bit = record {
  label = label_value bit.string;
  word = word_at bit.string (bit.at / word_bits);
  sync = nat_lt (bit.at % word_bits) sync_bits;
}

-- What is shown at bit time d of a message, and None where it is quiet.
abbrev pub shown_at : Message → ℕ → Option Shown
shown_at message d = option_map shown_of (bit_at message d)
