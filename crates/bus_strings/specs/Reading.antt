-- What a messages text reads as: its items, or the place and the reason of its refusal.
--   A refusal of a line is the first of the line's rows whose test holds; that of a text is of its first refused line.
use Rattle.std.specs.Prelude.{◌≡◌, ℕ, ◌-◌, ◌^◌, min, Bool, true, not, ◌&&◌, ◌||◌, List, [], ◌∷◌, map, drop, codes, Option}
use Rattle.std.specs.Prelude.{Result, slice_index_or}
use Rattle.std.specs.List.{slice_split, list_all}
use Rattle.std.specs.Str.{bytes_eq}
use Rattle.bus_text.specs.Headers.{headed}
use Rattle.bus_text.specs.Lines.{Entry}
use Rattle.bus_text.specs.AllOf.{◌>>=◌, all_of}
use Rattle.bus_text.specs.Fields.{is_at}
use Rattle.bus_text.specs.Numbers.{is_plain_decimal, decimal_value, is_hexadecimal, hexadecimal_value}
use Rattle.bus_text.specs.Refusals.{Refusal, first_of, unless, at_line}
use Rattle.bus_text.specs.declared.reason.Reason.{Reason}
use Rattle.bus_text.specs.declared.reason.Reason.TheVariants.{Keyword, Fields, Spelling, Range}
use Rattle.bus_strings.specs.Items.{Item, is_in_range}

-- The field that a terminal's number stands in.
abbrev pub number_of : List (List ℕ) → List ℕ
number_of fields = slice_index_or fields 1 []

-- Whether a field is a colon.
abbrev pub is_colon : List ℕ → Bool
is_colon field = bytes_eq field (codes ":")

-- The data words of each wordstring, where the fields are data words with a colon between each two wordstrings.
abbrev pub strings_of : List (List ℕ) → List (List ℕ)
strings_of fields = map (map hexadecimal_value) (slice_split is_colon fields)

-- The item of a line that is right: the first colon is the third field.
abbrev pub item_of : List (List ℕ) → Item
item_of fields = record { terminal = decimal_value (number_of fields); strings = strings_of (drop 3 fields) }

-- Whether each field is a colon or a data word.
abbrev pub are_spelled : List (List ℕ) → Bool
are_spelled fields = list_all (λ field. is_colon field || is_hexadecimal 4 field) fields

-- Why a further line is refused.
abbrev pub item_refusal : List (List ℕ) → Option Reason
item_refusal fields = first_of
    ((not (is_at fields 0 (codes "MSG")), Keyword)
    ∷ (not (is_at fields 2 (codes ":")), Fields)
    ∷ (not (is_plain_decimal (number_of fields) && are_spelled (drop 3 fields)), Spelling)
    ∷ (not (is_in_range (item_of fields)), Range)
    ∷ [])

-- The fields up to the first colon are right, and write this terminal, or the last value of a u64 where it is above that.
pub record HasFront (fields : List (List ℕ)) (terminal : ℕ) : Type 0 where
  pub keyword : is_at fields 0 (codes "MSG") ≡ true
  pub colon : is_at fields 2 (codes ":") ≡ true
  pub plain : is_plain_decimal (number_of fields) ≡ true
  pub value : terminal ≡ min (decimal_value (number_of fields)) (2 ^ 64 - 1)

-- What the fields of a further line read as.
unfoldable pub item_reading : List (List ℕ) → Result Item Reason
item_reading fields = unless (item_refusal fields) (item_of fields)

-- What a further line reads as, with its number at a reason against it.
abbrev pub item_line : Entry → Result Item Refusal
item_line entry = at_line entry.number (item_reading entry.fields)

-- What a text reads as: the items of the lines behind its header.
abbrev pub messages_reading : List ℕ → Result (List Item) Refusal
messages_reading text = headed (codes "MESSAGES") text >>= all_of item_line
