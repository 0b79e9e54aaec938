-- Fields that are word texts: what is said of a line of words before its wordstring is taken.
--   spelled   of the form of a word text and of the right kind, whatever the parity digit
--   parity    with the parity digit that its value has
use Rattle.std.specs.Prelude.{ℕ, ◌/◌, ◌%◌, Bool, true, false, ◌&&◌, List, [], ◌∷◌, map, is_ok, if◌then◌else◌}
use Rattle.std.specs.List.{list_all}
use Rattle.bus_words.specs.declared.word.Kind.{Kind}
use Rattle.bus_words.specs.declared.word.Kind.TheVariants.{Label, Plain}
use Rattle.bus_words.specs.WordTexts.{form, is_of, written_frame, read_word}
use Rattle.bus_strings.specs.Messages.{Wordstring}

-- Whether two kinds are the same.
abbrev pub same_kind : Kind → Kind → Bool
same_kind Label Label = true
same_kind Plain Plain = true
same_kind one other = false

-- Whether a field is of the form of a word text of this kind.
abbrev pub is_spelled : Kind → List ℕ → Bool
is_spelled kind field = is_of form field && same_kind (written_frame field).kind kind

-- Whether a field is the text of a word, its parity digit included.
abbrev pub has_parity : List ℕ → Bool
has_parity field = is_ok (read_word field)

-- The value of a field of the form.
abbrev pub value_of : List ℕ → ℕ
value_of field = if is_of form field then (written_frame field).value else 0

-- Whether fields are spelled as a label word and data words.
abbrev pub are_spelled : List (List ℕ) → Bool
are_spelled [] = false
are_spelled (label ∷ words) = is_spelled Label label && list_all (is_spelled Plain) words

-- Whether each field is the text of a word, its parity digit included.
abbrev pub have_parity : List (List ℕ) → Bool
have_parity fields = list_all has_parity fields

-- The wordstring of a label word's value, and of the fields of data words.
abbrev pub string_from : ℕ → List (List ℕ) → Wordstring
string_from value words = record { label = value / 16; ext = value % 16; words = map value_of words }

-- The wordstring of a label word's field, and of those of data words.
abbrev pub string_of : List (List ℕ) → Wordstring
string_of [] = string_from 0 []
string_of (label ∷ words) = string_from (value_of label) words
