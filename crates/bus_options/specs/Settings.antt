-- An option with its value, as words write it. A word is its bytes.
use Rattle.std.specs.Prelude.{ℕ, ◌==◌, ◌&&◌, Bool, nat_lt, codes, List, length, if◌then◌else◌}
use Rattle.std.specs.Prelude.{Option, Some, None, Result, Ok, Err}
use Rattle.std.specs.Int.{is_in_range}
use Rattle.std.specs.List.{position_or_len, before_first, after_first}
use Rattle.std.specs.Str.{bytes_eq}
use Rattle.bus_strings.specs.Limits.{most_terminal}
use Rattle.bus_text.specs.Numbers.{is_plain_decimal, decimal_value}
use Rattle.bus_units.specs.Quantities.{length_of, millionths_of}
use Rattle.bus_units.specs.declared.quantity.QuantityError.{QuantityError}
use Rattle.bus_options.specs.Keys.{Key}
use Rattle.bus_options.specs.declared.key.Key.TheVariants as key
pub use Rattle.bus_options.specs.declared.setting.Age.{Age}
pub use Rattle.bus_options.specs.declared.setting.EdgeUnit.{EdgeUnit}
pub use Rattle.bus_options.specs.declared.setting.EdgeUnit.TheVariants.{Nanoseconds, Seconds}
pub use Rattle.bus_options.specs.declared.setting.Setting.{Setting}
pub use Rattle.bus_options.specs.declared.setting.Setting.TheVariants.{Delay, Jitter, Clocks, From, To, FreeOrder, Age as OfAge, Unit, Json}
pub use Rattle.bus_options.specs.declared.setting.OptionReason.{OptionReason}
pub use Rattle.bus_options.specs.declared.setting.OptionReason.TheVariants.{Unknown, Twice, NoValue, HasValue, Quantity, Word, Terminal}

abbrev pub is_equals : ℕ → Bool
is_equals byte = byte == 61

-- Whether `=` stands in a word.
abbrev pub has_equals : List ℕ → Bool
has_equals word = nat_lt (position_or_len is_equals word) (length word)

-- What stands before the first `=`, and what behind it.
abbrev pub name_in : List ℕ → List ℕ
name_in word = before_first is_equals word

abbrev pub value_in : List ℕ → List ℕ
value_in word = after_first is_equals word

-- ---- values
abbrev pub quantity : Result ℕ QuantityError → Result ℕ OptionReason
quantity (Ok number) = Ok number
quantity (Err why) = Err (Quantity why)

-- The number of a terminal.
abbrev pub number_of : List ℕ → Option ℕ
number_of word =
    if is_plain_decimal word && is_in_range 1 most_terminal (decimal_value word) then Some (decimal_value word) else None

abbrev pub age_with : Option ℕ → Result ℕ OptionReason → Result Age OptionReason
age_with (Some number) (Ok length) = Ok (record { number = number; length = length })
age_with (Some number) (Err why) = Err why
age_with None length = Err Terminal

-- `K=LENGTH`
abbrev pub age_of : List ℕ → Result Age OptionReason
age_of value =
    if has_equals value then age_with (number_of (name_in value)) (quantity (length_of (value_in value))) else Err Terminal

-- `ns`, `s`
abbrev pub unit_of : List ℕ → Result EdgeUnit OptionReason
unit_of value =
    if bytes_eq value (codes "ns") then Ok Nanoseconds
    else if bytes_eq value (codes "s") then Ok Seconds
    else Err Word

-- `free`
abbrev pub order_of : List ℕ → Result Setting OptionReason
order_of value = if bytes_eq value (codes "free") then Ok FreeOrder else Err Word

-- What is made of a value, where there is one.
abbrev pub made : {X : Type 0} → (X → Setting) → Result X OptionReason → Result Setting OptionReason
made make (Ok value) = Ok (make value)
made make (Err why) = Err why

-- An option with the value that a word writes.
abbrev pub setting_of : Key → List ℕ → Result Setting OptionReason
setting_of key.Delay value = made Delay (quantity (length_of value))
setting_of key.Jitter value = made Jitter (quantity (length_of value))
setting_of key.Clocks value = made Clocks (quantity (millionths_of value))
setting_of key.From value = made From (quantity (length_of value))
setting_of key.To value = made To (quantity (length_of value))
setting_of key.Order value = order_of value
setting_of key.Age value = made OfAge (age_of value)
setting_of key.Unit value = made Unit (unit_of value)
setting_of key.Json value = Ok Json
