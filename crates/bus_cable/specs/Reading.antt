-- What a cable text reads as: its cable and its items, or the place and the reason of its refusal.
--   A refusal of a line is the first of the line's rows whose test holds; that of a text is of its first refused line.
use Rattle.std.specs.Prelude.{ℕ, Bool, not, ◌&&◌, ◌==◌, List, [], ◌∷◌, length, codes, Option, Result, Ok, slice_index_or}
use Rattle.std.specs.Prelude.{if◌then◌else◌}
use Rattle.bus_text.specs.Headers.{headed}
use Rattle.bus_text.specs.Lines.{Entry}
use Rattle.bus_text.specs.AllOf.{◌>>=◌, all_of}
use Rattle.bus_text.specs.Fields.{is_at}
use Rattle.bus_text.specs.Numbers.{is_plain_decimal, decimal_value}
use Rattle.bus_text.specs.Refusals.{Refusal, first_of, unless, at_line}
use Rattle.bus_text.specs.declared.reason.Reason.{Reason}
use Rattle.bus_text.specs.declared.reason.Reason.TheVariants.{Fields, Spelling, Range}
use Rattle.bus_strings.specs.Items.{Item}
use Rattle.bus_strings.specs.Reading.{number_of, item_line}
use Rattle.bus_cable.specs.declared.cable.Named.{Named}
use Rattle.bus_propagation.specs.Numbered.{most_place}
use Rattle.bus_cable.specs.Cables.{Cable, most_wake, may_name}

-- The field of the bit times.
abbrev pub bits_field : List (List ℕ) → List ℕ
bits_field fields = slice_index_or fields 2 []

-- What a line that is right names.
abbrev pub named_of : List (List ℕ) → Named
named_of fields = record { terminal = decimal_value (number_of fields); bits = decimal_value (bits_field fields) }

-- Why a line is refused that begins with the keyword of places or wakes. The one before it is of the terminal `last`.
abbrev pub named_refusal : ℕ → ℕ → List (List ℕ) → Option Reason
named_refusal most last fields = first_of
    ((not (length fields == 3), Fields)
    ∷ (not (is_plain_decimal (number_of fields) && is_plain_decimal (bits_field fields)), Spelling)
    ∷ (not (may_name most last (named_of fields)), Range)
    ∷ [])

-- What the fields of such a line read as.
unfoldable pub named_reading : ℕ → ℕ → List (List ℕ) → Result Named Reason
named_reading most last fields = unless (named_refusal most last fields) (named_of fields)

-- Whether a line begins with a keyword.
abbrev pub begins_with : List ℕ → Entry → Bool
begins_with word entry = is_at entry.fields 0 word

-- The lines at the front that begin with a keyword.
abbrev pub front_of : List ℕ → List Entry → List Entry
front_of word [] = []
front_of word (entry ∷ entries) = if begins_with word entry then entry ∷ front_of word entries else []

-- The lines behind these.
abbrev pub behind : List ℕ → List Entry → List Entry
behind word [] = []
behind word (entry ∷ entries) = if begins_with word entry then behind word entries else entry ∷ entries

-- What such lines read as, of which the first stands behind one of the terminal `last`.
abbrev pub named_lines : ℕ → ℕ → List Entry → Result (List Named) Refusal
named_lines most last [] = Ok []
named_lines most last (entry ∷ entries) =
    at_line entry.number (named_reading most last entry.fields) >>= λ named.
    named_lines most named.terminal entries >>= λ others. Ok (named ∷ others)

-- The lines behind the header: those of places at their front, then those of wakes. Every other line has to be that of an item.
unfoldable pub body_reading : List Entry → Result (Cable × List Item) Refusal
body_reading entries =
    let behind_places = behind (codes "PLACE") entries in
    named_lines most_place 0 (front_of (codes "PLACE") entries) >>= λ places.
    named_lines most_wake 0 (front_of (codes "WAKE") behind_places) >>= λ wakes.
    all_of item_line (behind (codes "WAKE") behind_places) >>= λ items. Ok (record { places = places; wakes = wakes }, items)

-- What a text reads as: the cable and the items of the lines behind its header.
abbrev pub cable_reading : List ℕ → Result (Cable × List Item) Refusal
cable_reading text = headed (codes "CABLE") text >>= body_reading
