-- Words of the bus.
-- Word: a kind and a number of sixteen bits. Frame: a word and its parity bit. Parity: odd, the bit itself counted.
use Rattle.std.specs.Prelude.{ℕ, ◌+◌, ◌*◌, ◌%◌, ◌==◌, Bool, count_ones, Result, Ok, Err, if◌then◌else◌}
use Rattle.std.specs.Bool.{beq}
use Rattle.bus_words.specs.declared.word.Kind.TheVariants.{Label, Plain}
use Rattle.bus_words.specs.declared.word.Word.{Word}
use Rattle.bus_words.specs.declared.word.FramedWord.{FramedWord}
use Rattle.bus_words.specs.declared.word.WordError.{WordError}
use Rattle.bus_words.specs.declared.word.WordError.TheVariants.{Parity}

-- The parity bit of a value: set where the value has an even number of ones.
abbrev pub parity : ℕ → Bool
parity value = count_ones value % 2 == 0

-- A word with its parity bit.
abbrev pub frame : Word → FramedWord
frame word = record { kind = word.kind; value = word.value; parity = parity word.value }

-- The word of a frame, where the parity bit is that of the value.
abbrev pub unframe : FramedWord → Result Word WordError
unframe f = if beq f.parity (parity f.value) then Ok (record { kind = f.kind; value = f.value }) else Err Parity

-- The label word of a label and an extension.
abbrev pub label_word : ℕ → ℕ → Word
label_word label ext = record { kind = Label; value = 16 * label + ext }

-- The data word of a value.
abbrev pub data_word : ℕ → Word
data_word value = record { kind = Plain; value = value }
