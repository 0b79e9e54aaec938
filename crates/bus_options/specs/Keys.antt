-- The names of options. A word is its bytes.
use Rattle.std.specs.Prelude.{ℕ, List, Bool, true, false, codes, Option, Some, None, if◌then◌else◌}
use Rattle.std.specs.Str.{bytes_eq}
pub use Rattle.bus_options.specs.declared.key.Key.{Key}
pub use Rattle.bus_options.specs.declared.key.Key.TheVariants.{Delay, Jitter, Clocks, From, To, Order, Age, Unit, Json}

-- The option of a name.
abbrev pub key_of : List ℕ → Option Key
key_of name =
    if bytes_eq name (codes "--delay") then Some Delay
    else if bytes_eq name (codes "--jitter") then Some Jitter
    else if bytes_eq name (codes "--clocks") then Some Clocks
    else if bytes_eq name (codes "--from") then Some From
    else if bytes_eq name (codes "--to") then Some To
    else if bytes_eq name (codes "--order") then Some Order
    else if bytes_eq name (codes "--age") then Some Age
    else if bytes_eq name (codes "--unit") then Some Unit
    else if bytes_eq name (codes "--json") then Some Json
    else None

-- Whether it has no value.
abbrev pub is_flag : Key → Bool
is_flag Delay = false
is_flag Jitter = false
is_flag Clocks = false
is_flag From = false
is_flag To = false
is_flag Order = false
is_flag Age = false
is_flag Unit = false
is_flag Json = true
