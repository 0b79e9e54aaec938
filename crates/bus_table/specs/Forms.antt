-- What a line reads as, by its form, and the first reason against it.
-- Each form is a list of rows of a test and a reason: the first row whose test holds gives the reason.
use Rattle.std.specs.Prelude.{ℕ, Bool, not, ◌&&◌, ◌||◌, ◌==◌, List, [], ◌∷◌, length, codes, Option, Some, None, Result, slice_index_or}
use Rattle.std.specs.Prelude.{if◌then◌else◌}
use Rattle.std.specs.List.{find}
use Rattle.std.specs.Str.{bytes_eq}
use Rattle.bus_text.specs.declared.reason.Reason.{Reason}
use Rattle.bus_text.specs.declared.reason.Reason.TheVariants.{Fields, Spelling, Range}
use Rattle.bus_text.specs.Fields.{is_at}
use Rattle.bus_text.specs.Headers.{is_format_one}
use Rattle.bus_text.specs.Numbers.{is_plain_decimal, decimal_value, is_hexadecimal, hexadecimal_value}
use Rattle.bus_text.specs.Refusals.{first_of, unless}
use Rattle.bus_table.specs.declared.keyword.Keyword.{Keyword}
use Rattle.bus_table.specs.declared.keyword.Keyword.TheVariants as keywords
use Rattle.bus_table.specs.declared.mode.Mode.{Mode}
use Rattle.bus_table.specs.declared.mode.Mode.TheVariants.{Aperiodic, Periodic}
use Rattle.bus_table.specs.Heads.{Head, is_head}
use Rattle.bus_table.specs.Tables.{SendLine, TakeLine}
use Rattle.bus_table.specs.Ranges.{is_send_line, is_take_line}
use Rattle.bus_table.specs.Text.{mode_word}

-- The field at a place, counted from 0.
abbrev pub field : List (List ℕ) → ℕ → List ℕ
field fields place = slice_index_or fields place []

-- How a keyword is spelled.
abbrev pub word_of : Keyword → List ℕ
word_of keywords.Table = codes "TABLE"
word_of keywords.Mode = codes "MODE"
word_of keywords.Ti = codes "TI"
word_of keywords.Sg = codes "SG"
word_of keywords.Sender = codes "SENDER"
word_of keywords.Send = codes "SEND"
word_of keywords.Take = codes "TAKE"
word_of keywords.Listener = codes "LISTENER"

-- Every keyword.
abbrev pub all_keywords : List Keyword
all_keywords =
    keywords.Table ∷ keywords.Mode ∷ keywords.Ti ∷ keywords.Sg
    ∷ keywords.Sender ∷ keywords.Send ∷ keywords.Take ∷ keywords.Listener ∷ []

-- The keyword of a line, which is its first field.
abbrev pub keyword_of : List (List ℕ) → Option Keyword
keyword_of fields = find (λ keyword. is_at fields 0 (word_of keyword)) all_keywords

-- The TABLE line.
unfoldable pub table_reading : List (List ℕ) → Result (Unit {0}) Reason
table_reading fields = unless (first_of ((not (is_format_one fields), Fields) ∷ [])) tt

-- The mode of a MODE line, where its word is one of the two.
abbrev pub mode_of : List (List ℕ) → Mode
mode_of fields = if is_at fields 1 (mode_word Periodic) then Periodic else Aperiodic

-- The MODE line.
unfoldable pub mode_reading : List (List ℕ) → Result Mode Reason
mode_reading fields = unless (first_of
    ((not (length fields == 2), Fields)
    ∷ (not (is_at fields 1 (mode_word Aperiodic) || is_at fields 1 (mode_word Periodic)), Spelling)
    ∷ []))
    (mode_of fields)

-- A line of a keyword and a number, as the TI line and the SG line.
unfoldable pub number_reading : (ℕ → Bool) → List (List ℕ) → Result ℕ Reason
number_reading in_range fields = unless (first_of
    ((not (length fields == 2), Fields)
    ∷ (not (is_plain_decimal (field fields 1)), Spelling)
    ∷ (not (in_range (decimal_value (field fields 1))), Range)
    ∷ []))
    (decimal_value (field fields 1))

-- The numbers of a SENDER line without an offset.
abbrev pub head_of : List (List ℕ) → Head
head_of fields = record { number = decimal_value (field fields 1); tg = decimal_value (field fields 3); at = 0 }

-- A SENDER line of an aperiodic table.
unfoldable pub sender_reading : List (List ℕ) → Result Head Reason
sender_reading fields = unless (first_of
    ((not (length fields == 4 && is_at fields 2 (codes "TG")), Fields)
    ∷ (not (is_plain_decimal (field fields 1) && is_plain_decimal (field fields 3)), Spelling)
    ∷ (not (is_head (head_of fields)), Range)
    ∷ []))
    (head_of fields)

-- The numbers of a SENDER line with an offset.
abbrev pub offset_head_of : List (List ℕ) → Head
offset_head_of fields = record {
  number = decimal_value (field fields 1);
  tg = decimal_value (field fields 3);
  at = decimal_value (field fields 5);
}

-- A SENDER line of a periodic table.
unfoldable pub offset_reading : List (List ℕ) → Result Head Reason
offset_reading fields = unless (first_of
    ((not (length fields == 6 && (is_at fields 2 (codes "TG") && is_at fields 4 (codes "AT"))), Fields)
    ∷ (not (is_plain_decimal (field fields 1) && (is_plain_decimal (field fields 3) && is_plain_decimal (field fields 5))), Spelling)
    ∷ (not (is_head (offset_head_of fields)), Range)
    ∷ []))
    (offset_head_of fields)

-- A SENDER line of a table of this mode.
abbrev pub head_reading : Mode → List (List ℕ) → Result Head Reason
head_reading Aperiodic fields = sender_reading fields
head_reading Periodic fields = offset_reading fields

-- What a SEND line says.
abbrev pub send_line_of : List (List ℕ) → SendLine
send_line_of fields = record {
  label = hexadecimal_value (field fields 1);
  ext = hexadecimal_value (field fields 2);
  least = decimal_value (field fields 3);
  most = decimal_value (field fields 4);
}

-- Whether the fields of a SEND line are spellings of their kinds.
abbrev pub is_send_spelled : List (List ℕ) → Bool
is_send_spelled fields =
    is_hexadecimal 3 (field fields 1)
    && (is_hexadecimal 1 (field fields 2) && (is_plain_decimal (field fields 3) && is_plain_decimal (field fields 4)))

-- A SEND line.
unfoldable pub send_reading : List (List ℕ) → Result SendLine Reason
send_reading fields = unless (first_of
    ((not (length fields == 5), Fields)
    ∷ (not (is_send_spelled fields), Spelling)
    ∷ (not (is_send_line (send_line_of fields)), Range)
    ∷ []))
    (send_line_of fields)

-- Whether a field is a `*`.
abbrev pub is_star : List ℕ → Bool
is_star field = bytes_eq field (codes "*")

-- Whether a field is an extension, or a `*` for every extension.
abbrev pub is_ext_spelled : List ℕ → Bool
is_ext_spelled field = is_star field || is_hexadecimal 1 field

-- The extension of such a field, or none for every extension.
abbrev pub ext_of : List ℕ → Option ℕ
ext_of field = if is_star field then None else Some (hexadecimal_value field)

-- What a TAKE line says.
abbrev pub take_line_of : List (List ℕ) → TakeLine
take_line_of fields = record {
  label = hexadecimal_value (field fields 1);
  ext = ext_of (field fields 2);
  first = decimal_value (field fields 3);
  count = decimal_value (field fields 4);
}

-- Whether the fields of a TAKE line are spellings of their kinds.
abbrev pub is_take_spelled : List (List ℕ) → Bool
is_take_spelled fields =
    is_hexadecimal 3 (field fields 1)
    && (is_ext_spelled (field fields 2) && (is_plain_decimal (field fields 3) && is_plain_decimal (field fields 4)))

-- A TAKE line.
unfoldable pub take_reading : List (List ℕ) → Result TakeLine Reason
take_reading fields = unless (first_of
    ((not (length fields == 5), Fields)
    ∷ (not (is_take_spelled fields), Spelling)
    ∷ (not (is_take_line (take_line_of fields)), Range)
    ∷ []))
    (take_line_of fields)
