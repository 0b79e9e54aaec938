-- Quantities as words write them: a plain decimal with at most three places behind a point, and a unit. A word is its bytes.
use Rattle.std.specs.Prelude.{ℕ, ◌+◌, ◌-◌, ◌*◌, ◌/◌, ◌%◌, ◌==◌, Bool, not, ◌||◌, nat_lt, nat_le, codes, if◌then◌else◌}
use Rattle.std.specs.Prelude.{List, [], ◌∷◌, length, drop, Option, Some, None, Result, Ok, Err}
use Rattle.std.specs.Char.{is_ascii_digit}
use Rattle.std.specs.List.{list_all, position_or_len, before_first, after_first}
use Rattle.std.specs.Str.{bytes_eq}
use Rattle.bus_text.specs.Numbers.{is_plain_decimal, decimal_value}
pub use Rattle.bus_units.specs.declared.quantity.QuantityError.{QuantityError}
pub use Rattle.bus_units.specs.declared.quantity.QuantityError.TheVariants.{NoNumber, Places, Unit as NoUnit, TooGreat, NotWhole}
pub use Rattle.bus_units.specs.declared.unit.Unit.{Unit}
pub use Rattle.bus_units.specs.declared.unit.Unit.TheVariants.{Nanosecond, Microsecond, Millisecond, BitTime, Millionth}

-- ---- units
abbrev pub unit_of : List ℕ → Option Unit
unit_of name =
    if bytes_eq name (codes "ns") then Some Nanosecond
    else if bytes_eq name (codes "us") then Some Microsecond
    else if bytes_eq name (codes "ms") then Some Millisecond
    else if bytes_eq name (codes "bt") then Some BitTime
    else if bytes_eq name (codes "ppm") then Some Millionth
    else None

-- How many nanoseconds a bit time has.
abbrev pub bit_time : ℕ
bit_time = 500

-- How many nanoseconds a unit has.
abbrev pub nanoseconds : Unit → Option ℕ
nanoseconds Nanosecond = Some 1
nanoseconds Microsecond = Some 1000
nanoseconds Millisecond = Some 1000000
nanoseconds BitTime = Some bit_time
nanoseconds Millionth = None

-- ---- numbers
abbrev pub is_point : ℕ → Bool
is_point byte = byte == 46

-- Whether a byte may stand in a number.
abbrev pub is_number_byte : ℕ → Bool
is_number_byte byte = is_ascii_digit byte || is_point byte

abbrev pub digit : ℕ → ℕ
digit byte = byte - 48

-- What digits behind a point write in thousandths: one, two or three of them.
abbrev pub thousandths_behind : List ℕ → Result ℕ QuantityError
thousandths_behind [] = Err NoNumber
thousandths_behind (a ∷ []) = Ok (100 * digit a)
thousandths_behind (a ∷ b ∷ []) = Ok (100 * digit a + 10 * digit b)
thousandths_behind (a ∷ b ∷ c ∷ []) = Ok (100 * digit a + 10 * digit b + digit c)
thousandths_behind (a ∷ b ∷ c ∷ d ∷ more) = Err Places

abbrev pub places_of : List ℕ → Result ℕ QuantityError
places_of places = if list_all is_ascii_digit places then thousandths_behind places else Err NoNumber

-- The number of ones that a plain decimal writes.
abbrev pub whole_of : List ℕ → Result ℕ QuantityError
whole_of number = if is_plain_decimal number then Ok (decimal_value number) else Err NoNumber

-- So many ones, and what stands behind their point, in thousandths.
abbrev pub with_places : Result ℕ QuantityError → Result ℕ QuantityError → Result ℕ QuantityError
with_places (Ok whole) (Ok places) = Ok (1000 * whole + places)
with_places (Ok whole) (Err error) = Err error
with_places (Err error) places = Err error

-- What a number writes in thousandths.
abbrev pub thousandths_of : List ℕ → Result ℕ QuantityError
thousandths_of number =
    if nat_lt (position_or_len is_point number) (length number)
    then with_places (whole_of (before_first is_point number)) (places_of (after_first is_point number))
    else with_places (whole_of number) (Ok 0)

-- ---- quantities
-- A number in thousandths, and the unit behind it.
pub record Written : Type 0 where
  pub thousandths : ℕ
  pub unit : Unit

-- A number with what stands behind it.
abbrev pub with_unit : Result ℕ QuantityError → Option Unit → Result Written QuantityError
with_unit (Ok thousandths) (Some unit) = Ok (record { thousandths = thousandths; unit = unit })
with_unit (Ok thousandths) None = Err NoUnit
with_unit (Err error) unit = Err error

-- What a word writes: a number up to the first byte that is neither digit nor point, and a unit from there.
abbrev pub quantity_of : List ℕ → Result Written QuantityError
quantity_of word = with_unit (thousandths_of (before_first (λ byte. not (is_number_byte byte)) word))
    (unit_of (drop (position_or_len (λ byte. not (is_number_byte byte)) word) word))

-- The greatest length, in nanoseconds, and the greatest number of millionths.
abbrev pub most_length : ℕ
most_length = 549755813888000

abbrev pub most_millionths : ℕ
most_millionths = 1000000

-- So many thousandths of a unit that has so many ones, as a whole number of ones up to a limit.
abbrev pub whole : (thousandths factor limit : ℕ) → Result ℕ QuantityError
whole thousandths factor limit =
    if nat_le (thousandths * factor) (limit * 1000)
    then (if (thousandths * factor) % 1000 == 0 then Ok (thousandths * factor / 1000) else Err NotWhole)
    else Err TooGreat

-- In nanoseconds, of a unit that has so many.
abbrev pub length_in : ℕ → Option ℕ → Result ℕ QuantityError
length_in thousandths (Some factor) = whole thousandths factor most_length
length_in thousandths None = Err NoUnit

-- In millionths.
abbrev pub millionths_in : ℕ → Unit → Result ℕ QuantityError
millionths_in thousandths Nanosecond = Err NoUnit
millionths_in thousandths Microsecond = Err NoUnit
millionths_in thousandths Millisecond = Err NoUnit
millionths_in thousandths BitTime = Err NoUnit
millionths_in thousandths Millionth = whole thousandths 1 most_millionths

-- The length that is written so, in nanoseconds.
abbrev pub length_written : Result Written QuantityError → Result ℕ QuantityError
length_written (Ok written) = length_in written.thousandths (nanoseconds written.unit)
length_written (Err error) = Err error

abbrev pub length_of : List ℕ → Result ℕ QuantityError
length_of word = length_written (quantity_of word)

-- How many millionths are written so.
abbrev pub millionths_written : Result Written QuantityError → Result ℕ QuantityError
millionths_written (Ok written) = millionths_in written.thousandths written.unit
millionths_written (Err error) = Err error

abbrev pub millionths_of : List ℕ → Result ℕ QuantityError
millionths_of word = millionths_written (quantity_of word)
