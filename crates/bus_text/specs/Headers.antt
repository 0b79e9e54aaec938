-- The first line of a text: the word of its kind, and the number of its format, which is 1.
use Rattle.std.specs.Prelude.{ℕ, Bool, not, ◌&&◌, ◌==◌, List, [], ◌∷◌, length, codes, Option, Result, Ok, Err}
use Rattle.bus_text.specs.AllOf.{◌>>=◌}
use Rattle.bus_text.specs.Fields.{is_at}
use Rattle.bus_text.specs.Lines.{Entry, entries_of, line_after_of}
use Rattle.bus_text.specs.Refusals.{Refusal, first_of, unless, at_line}
use Rattle.bus_text.specs.declared.reason.Reason.{Reason}
use Rattle.bus_text.specs.declared.reason.Reason.TheVariants.{Ended, Keyword, Fields}

-- The fields of the first line of a text of this word.
abbrev pub header_fields : List ℕ → List (List ℕ)
header_fields word = word ∷ codes "1" ∷ []

-- Whether fields are two, of which the second is the number of the format.
abbrev pub is_format_one : List (List ℕ) → Bool
is_format_one fields = length fields == 2 && is_at fields 1 (codes "1")

-- Why the first line of a text of this word is refused.
abbrev pub header_refusal : List ℕ → List (List ℕ) → Option Reason
header_refusal word fields = first_of
    ((not (is_at fields 0 word), Keyword)
    ∷ (not (is_format_one fields), Fields)
    ∷ [])

-- What the fields of the first line read as.
unfoldable pub header_reading : List ℕ → List (List ℕ) → Result (Unit {0}) Reason
header_reading word fields = unless (header_refusal word fields) tt

-- The lines behind the first one; lines without a first one have ended too early, and `after` is one past the last.
unfoldable pub behind_header : List ℕ → List Entry → ℕ → Result (List Entry) Refusal
behind_header word [] after = Err (record { line = after; reason = Ended })
behind_header word (first ∷ others) after = at_line first.number (header_reading word first.fields) >>= λ _. Ok others

-- The lines of a text of this word behind its first one.
abbrev pub headed : List ℕ → List ℕ → Result (List Entry) Refusal
headed word text = behind_header word (entries_of text) (line_after_of text)
