-- What a line of a stream says.
--   field     what stands between single spaces, so that a doubled, leading or trailing space makes an empty one
--   message   word texts behind one another, of which each label word begins a wordstring
use Rattle.std.specs.Prelude.{◌≡◌, ℕ, ◌/◌, ◌%◌, Bool, true, false, not, ◌&&◌, ◌==◌, nat_le, nat_lt, List, [], ◌∷◌, codes, drop, length, if◌then◌else◌}
use Rattle.std.specs.Prelude.{Option, Some, None, Result, Ok, Err}
use Rattle.std.specs.Int.{is_in_range}
use Rattle.std.specs.List.{list_all}
use Rattle.std.specs.Str.{bytes_eq}
use Rattle.bus_text.specs.Refusals.{first_of, unless}
use Rattle.bus_text.specs.declared.fault.LineFault.{LineFault}
use Rattle.bus_text.specs.inside.Gives.{LineFails}
use Rattle.bus_words.specs.WordTexts.{form, is_of, written_frame}
use Rattle.bus_words.specs.declared.word.Kind.{Kind}
use Rattle.bus_words.specs.declared.word.Kind.TheVariants.{Label, Plain}
use Rattle.bus_strings.specs.Limits.{most_strings, most_terminal, most_words}
use Rattle.bus_strings.specs.Messages.{Message, Wordstring}
use Rattle.bus_trace.specs.States.{spaced_fields, field, is_number, number}
use Rattle.bus_trace.specs.WordFields.{have_parity, is_spelled}
use Rattle.bus_stream.specs.declared.item.Item.{Item}
use Rattle.bus_stream.specs.declared.item.Item.TheVariants.{Sent, Told, Lost}
use Rattle.bus_stream.specs.declared.reason.StreamReason.{StreamReason}
use Rattle.bus_stream.specs.declared.reason.StreamReason.TheVariants as reason

-- The word of a reason.
abbrev pub reason_word : StreamReason → List ℕ
reason_word reason.Long = codes "Long"
reason_word reason.Keyword = codes "Keyword"
reason_word reason.Fields = codes "Fields"
reason_word reason.Spelling = codes "Spelling"
reason_word reason.Parity = codes "Parity"
reason_word reason.Range = codes "Range"
reason_word reason.Order = codes "Order"

-- The first line.
abbrev pub head : List ℕ
head = codes "STREAM 1"

-- The greatest moment, in nanoseconds: 126 years.
abbrev pub most_time : ℕ
most_time = 4000000000000000000

-- ---- messages

-- The data words before the first label word, and the wordstrings from it on.
pub record Parts : Type 0 where
  pub words : List ℕ
  pub strings : List Wordstring

-- The wordstring of a label word's value and of data words.
abbrev pub string_of : ℕ → List ℕ → Wordstring
string_of label words = record { label = label / 16; ext = label % 16; words = words }

-- A word before these.
abbrev pub before : Kind → ℕ → Parts → Parts
before Label value parts = record { words = []; strings = string_of value parts.words ∷ parts.strings }
before Plain value parts = record { words = value ∷ parts.words; strings = parts.strings }

abbrev pub parts_of : List (List ℕ) → Parts
parts_of [] = record { words = []; strings = [] }
parts_of (word ∷ words) = before (written_frame word).kind (written_frame word).value (parts_of words)

-- The message of word texts.
abbrev pub message_of : List (List ℕ) → Message
message_of words = (parts_of words).strings

-- Whether there are no more wordstrings and data words than may be.
abbrev pub is_short : Wordstring → Bool
is_short string = nat_le (length string.words) most_words

abbrev pub fits : Message → Bool
fits message = list_all is_short message && nat_le (length message) most_strings

-- The message, where it fits.
abbrev pub IsFitting : Option Message → Message → Type 0
IsFitting (Some m) message = (m ≡ message) × (fits message ≡ true)
IsFitting None message = fits message ≡ false

-- Whether fields are spelled as words, the first of them as a label word.
abbrev pub are_words : List (List ℕ) → Bool
are_words [] = false
are_words (label ∷ words) = is_spelled Label label && list_all (is_of form) words

-- ---- lines

-- Whether a field is a moment.
abbrev pub is_time : List (List ℕ) → ℕ → Bool
is_time fields k = is_in_range 0 most_time (number fields k)

-- A transmission. A line that isn't right is refused for the first of these reasons that applies.
abbrev pub sent_in : List (List ℕ) → Result Item StreamReason
sent_in fields =
    unless (first_of (
    (nat_lt (length fields) 4, reason.Fields)
    ∷ (not (is_number fields 1 && (is_number fields 2 && are_words (drop 3 fields))), reason.Spelling)
    ∷ (not (have_parity (drop 3 fields)), reason.Parity)
    ∷ (not (is_time fields 1 && (is_in_range 1 most_terminal (number fields 2) && fits (message_of (drop 3 fields)))), reason.Range)
    ∷ []))
    (Sent (number fields 1) (number fields 2) (message_of (drop 3 fields)))

-- A moment up to which all is told.
abbrev pub told_in : List (List ℕ) → Result Item StreamReason
told_in fields =
    unless (first_of (
    (not (length fields == 2), reason.Fields)
    ∷ (not (is_number fields 1), reason.Spelling)
    ∷ (not (is_time fields 1), reason.Range)
    ∷ []))
    (Told (number fields 1))

-- A stretch of which anything may lack, and the word of its cause.
abbrev pub lost_in : List (List ℕ) → Result Item StreamReason
lost_in fields =
    unless (first_of (
    (not (length fields == 4), reason.Fields)
    ∷ (not (is_number fields 1 && (is_number fields 2 && nat_lt 0 (length (field fields 3)))), reason.Spelling)
    ∷ (not (is_time fields 1 && is_time fields 2), reason.Range)
    ∷ (nat_lt (number fields 2) (number fields 1), reason.Order)
    ∷ []))
    (Lost (number fields 1) (number fields 2))

-- A line by its keyword.
abbrev pub fields_item : List (List ℕ) → Result Item StreamReason
fields_item fields =
    if bytes_eq (field fields 0) (codes "TX") then sent_in fields
    else if bytes_eq (field fields 0) (codes "TIME") then told_in fields
    else if bytes_eq (field fields 0) (codes "GAP") then lost_in fields
    else Err reason.Keyword

-- What a reader of a line answered, unless memory ran out.
abbrev pub Gives : Result Item (LineFault StreamReason) → Result Item StreamReason → Type 0
Gives (Ok item) read = read ≡ Ok item
Gives (Err e) read = LineFails e read

-- What a line says, which is given without its line feed, or why it is refused.
abbrev pub item_of : List ℕ → Result Item StreamReason
item_of line = fields_item (spaced_fields line)
