-- The text of a word: a letter for the kind, four hexadecimal digits in capitals, and the parity digit.
-- Form: a test for each byte of a text. Front: the first bytes of a text.
use Rattle.std.specs.Prelude.{◌≡◌, ◌≢◌, ℕ, suc, ◌<◌, ◌≤◌, ◌^◌, Bool, true, false, ◌&&◌, ◌||◌, ◌==◌, List, [], ◌∷◌, ◌++◌, length, take, drop}
use Rattle.std.specs.Prelude.{slice_index, Result, Err, if◌then◌else◌}
use Rattle.bus_text.specs.Digits.{hexadecimal, is_capital_digit}
use Rattle.bus_text.specs.Numbers.{hexadecimal_value}
use Rattle.bus_words.specs.declared.word.Kind.{Kind}
use Rattle.bus_words.specs.declared.word.Kind.TheVariants.{Label, Plain}
use Rattle.bus_words.specs.declared.word.Word.{Word}
use Rattle.bus_words.specs.declared.word.FramedWord.{FramedWord}
use Rattle.bus_words.specs.declared.word.WordError.{WordError}
use Rattle.bus_words.specs.declared.word.WordError.TheVariants.{Shape, Parity}
use Rattle.bus_words.specs.Words.{parity, frame, unframe}

-- ---- what is written
-- The letter of a kind: `L` or `D`.
abbrev pub letter : Kind → ℕ
letter Label = 76
letter Plain = 68

-- The digit of a bit: `1` or `0`.
abbrev pub bit_digit : Bool → ℕ
bit_digit true = 49
bit_digit false = 48

-- The text of a frame, whatever its parity bit.
abbrev pub frame_text : FramedWord → List ℕ
frame_text f = letter f.kind ∷ (hexadecimal 4 f.value ++ bit_digit f.parity ∷ [])

-- The text of a word.
abbrev pub word_text : Word → List ℕ
word_text word = frame_text (frame word)

-- ---- why a text isn't that of a word
-- Some frame has this text.
abbrev pub IsFrameText : List ℕ → Type 0
IsFrameText text = (f : FramedWord) × (f.value < 2 ^ 16) × (text ≡ frame_text f)

-- The text of some frame begins with these bytes.
abbrev pub BeginsFrame : List ℕ → Type 0
BeginsFrame front = (rest : List ℕ) × IsFrameText (front ++ rest)

-- The length of the longest front of a text that begins the text of some frame.
pub record IsLongestFront (text : List ℕ) (count : ℕ) : Type 0 where
  pub within : count ≤ length text
  pub begins : BeginsFrame (take count text)
  pub longest : (n : ℕ) → n ≤ length text → BeginsFrame (take n text) → n ≤ count

-- The cause of each refusal.
abbrev pub Fails : List ℕ → WordError → Type 0
Fails text (Shape count) = (IsFrameText text → ⊥) × IsLongestFront text count
Fails text Parity = (f : FramedWord) × (f.value < 2 ^ 16) × (text ≡ frame_text f) × (f.parity ≢ parity f.value)

-- ---- what is read
-- Whether a byte is the letter of a word: L for a label word, D for a data word.
abbrev pub is_letter : ℕ → Bool
is_letter byte = byte == 76 || byte == 68

-- Whether a byte is the digit of a bit.
abbrev pub is_bit : ℕ → Bool
is_bit byte = byte == 49 || byte == 48

-- The form of a frame's text.
abbrev pub form : List (ℕ → Bool)
form = is_letter ∷ is_capital_digit ∷ is_capital_digit ∷ is_capital_digit ∷ is_capital_digit ∷ is_bit ∷ []

-- Whether a text is of a form.
abbrev pub is_of : List (ℕ → Bool) → List ℕ → Bool
is_of [] [] = true
is_of [] (byte ∷ bytes) = false
is_of (test ∷ tests) [] = false
is_of (test ∷ tests) (byte ∷ bytes) = test byte && is_of tests bytes

-- How many bytes of a text keep to a form, up to the first that doesn't.
abbrev pub kept : List (ℕ → Bool) → List ℕ → ℕ
kept [] bytes = 0
kept (test ∷ tests) [] = 0
kept (test ∷ tests) (byte ∷ bytes) = if test byte then suc (kept tests bytes) else 0

-- The frame that a text of the form writes.
abbrev pub written_frame : List ℕ → FramedWord
written_frame text = record {
  kind = if slice_index text 0 == 76 then Label else Plain;
  value = hexadecimal_value (take 4 (drop 1 text));
  parity = slice_index text 5 == 49;
}

-- What a text reads as.
abbrev pub read_word : List ℕ → Result Word WordError
read_word text = if is_of form text then unframe (written_frame text) else Err (Shape (kept form text))
