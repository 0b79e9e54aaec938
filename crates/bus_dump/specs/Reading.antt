-- What a reader of Value Change Dumps makes of a text: which identifier is declared for the name of a signal, and the value of the signal
-- with an identifier at a time, in units of 100 ns.
use Rattle.std.specs.Prelude.{ℕ, ◌&&◌, ◌==◌, nat_le, true, false, List, [], ◌∷◌, codes, fold, slice_get, slice_index_or, Option, Some, None}
use Rattle.std.specs.Prelude.{if◌then◌else◌}
use Rattle.std.specs.List.{slice_split}
use Rattle.std.specs.Option.{option_and_then, option_or}
use Rattle.std.specs.Str.{bytes_eq}
use Rattle.std.specs.Str.Parse.{digits_value}
use Rattle.bus_text.specs.Lines.{physical_lines}
use Rattle.bus_dump.specs.Signals.{Value, Bit, Number, Floating, Unknown}

-- A line is the stamp of a time; or it gives the signal with an identifier a value; or it says nothing of either.
pub data Line : Type 0 where
  time : ℕ → Line
  gives : List ℕ → Value → Line
  other : Line

-- ---- bytes
-- The byte of a blank.
abbrev pub blank : ℕ
blank = 32

-- The byte of `#`, which begins a stamp.
abbrev pub hash : ℕ
hash = 35

-- The byte of `0`.
abbrev pub digit_zero : ℕ
digit_zero = 48

-- The byte of `1`.
abbrev pub digit_one : ℕ
digit_one = 49

-- The byte of `b`, which begins a vector.
abbrev pub letter_b : ℕ
letter_b = 98

-- The byte of `x`, of what is unknown.
abbrev pub letter_x : ℕ
letter_x = 120

-- The byte of `z`, of what floats.
abbrev pub letter_z : ℕ
letter_z = 122

-- The parts of a line between its blanks.
abbrev pub parts_of : List ℕ → List (List ℕ)
parts_of line = slice_split (λ b. b == blank) line

-- ---- values
-- The value of a vector: of `z`, of `x`, or of binary digits.
abbrev pub vector_value : ℕ → List ℕ → Value
vector_value first rest =
    if first == letter_z then Floating else (if first == letter_x then Unknown else Number (digits_value 2 (first ∷ rest)))

-- A vector without digits says nothing.
abbrev pub vector_line : List ℕ → List ℕ → Line
vector_line [] id = other
vector_line (first ∷ rest) id = gives id (vector_value first rest)

-- A vector: its digits, and its identifier.
abbrev pub vector : List (List ℕ) → Line
vector [] = other
vector (digits ∷ []) = other
vector (digits ∷ (id ∷ [])) = vector_line digits id
vector (digits ∷ (id ∷ (more ∷ parts))) = other

-- What a line is: behind `#` a time, behind `0` or `1` the identifier of a signal of one bit, behind `b` a vector.
abbrev pub line_of : List ℕ → Line
line_of [] = other
line_of (first ∷ rest) =
    if first == hash then time (digits_value 10 rest)
    else (if first == digit_zero then gives rest (Bit false)
    else (if first == digit_one then gives rest (Bit true)
    else (if first == letter_b then vector (parts_of rest) else other)))

-- Where a reader stands: the time of the last stamp, and the value of the signal at the time that is asked for, so far.
pub record Place : Type 0 where
  pub now : ℕ
  pub value : Option Value

-- What a line does, where the signal with this identifier is asked for at this time.
abbrev pub step : List ℕ → ℕ → Place → Line → Place
step id at place (time now) = record { now = now; value = place.value }
step id at place (gives signal value) =
    if bytes_eq signal id && nat_le place.now at then record { now = place.now; value = Some value } else place
step id at place other = place

-- What is read of a text from a place on.
abbrev pub read_on : List ℕ → ℕ → Place → List ℕ → Place
read_on id at place text = fold (λ (p : Place) line. step id at p (line_of line)) place (physical_lines text)

-- The value that a text gives the signal with this identifier at this time, if it gives one.
abbrev pub read : List ℕ → ℕ → List ℕ → Option Value
read id at text = (read_on id at (record { now = 0; value = None }) text).value

-- ---- names
-- The identifier that a line of these parts declares for a name, if it does: `$var wire 1 id name $end`.
abbrev pub declared : List ℕ → List (List ℕ) → Option (List ℕ)
declared name parts =
    if bytes_eq (slice_index_or parts 0 []) (codes "$var") && bytes_eq (slice_index_or parts 4 []) name then slice_get parts 3 else None

-- The first that one of these lines declares for it.
abbrev pub first_declared : List ℕ → List (List ℕ) → Option (List ℕ)
first_declared name [] = None
first_declared name (line ∷ lines) = option_or (declared name (parts_of line)) (first_declared name lines)

-- The identifier that a text declares for a name.
abbrev pub identifier : List ℕ → List ℕ → Option (List ℕ)
identifier name text = first_declared name (physical_lines text)

-- The value that a text gives the signal with this name at this time, if it gives one.
abbrev pub read_named : List ℕ → ℕ → List ℕ → Option Value
read_named name at text = option_and_then (λ id. read id at text) (identifier name text)
