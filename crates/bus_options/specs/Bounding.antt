-- The bounds of a bus that options ask for.
use Rattle.std.specs.Prelude.{ℕ, ◌≤◌, Bool, ◌||◌, nat_lt, Option, Some, None, is_some, unwrap_or, Result, Ok, Err, if◌then◌else◌}
use Rattle.std.specs.Int.{div_ceil}
use Rattle.bus_bounds.specs.Bounds.{Bounds, most_delay, most_jitter, most_clocks}
use Rattle.bus_units.specs.Quantities.{bit_time}
use Rattle.bus_options.specs.Options.{Options}
pub use Rattle.bus_options.specs.declared.bounding.PastLimit.{PastLimit}
pub use Rattle.bus_options.specs.declared.bounding.PastLimit.TheVariants.{Delay, Jitter, Clocks}

-- The greatest delay between a monitor and a terminal, and the greatest jitter, of a recording, in bit times: limits of this project's
-- profile. Over the longest way there and back a signal takes less than a word.
abbrev pub most_near_delay : ℕ
most_near_delay = 9

abbrev pub most_near_jitter : ℕ
most_near_jitter = 255

-- Bounds of a recording within their limits: the delay between the monitor and a terminal and the jitter in bit times.
pub record AreNear (bounds : Bounds) : Type 0 where
  pub delay : bounds.delay ≤ most_near_delay
  pub jitter : bounds.jitter ≤ most_near_jitter
  pub clocks : bounds.clocks ≤ most_clocks

-- Whether a bound is given.
abbrev pub has_bounds : Options → Bool
has_bounds options = is_some options.delay || is_some options.jitter || is_some options.clocks

-- Those that aren't are 0: in nanoseconds, and in bit times, rounded up.
abbrev pub bounds_in : Options → Bounds
bounds_in options =
    record { delay = unwrap_or options.delay 0; jitter = unwrap_or options.jitter 0; clocks = unwrap_or options.clocks 0 }

abbrev pub near_bounds_in : Options → Bounds
near_bounds_in options = record {
  delay = div_ceil (unwrap_or options.delay 0) bit_time;
  jitter = div_ceil (unwrap_or options.jitter 0) bit_time;
  clocks = unwrap_or options.clocks 0;
}

-- Bounds within these limits, or the first that is past its limit.
abbrev pub within : Bounds → (delay jitter : ℕ) → Result (Option Bounds) PastLimit
within bounds delay jitter =
    if nat_lt delay bounds.delay then Err Delay
    else if nat_lt jitter bounds.jitter then Err Jitter
    else if nat_lt most_clocks bounds.clocks then Err Clocks
    else Ok (Some bounds)

-- The bounds that options ask for, if they ask for any.
abbrev pub bounds_of : Options → Result (Option Bounds) PastLimit
bounds_of options = if has_bounds options then within (bounds_in options) most_delay most_jitter else Ok None

-- The same of a recording.
abbrev pub near_bounds_of : Options → Result (Option Bounds) PastLimit
near_bounds_of options = if has_bounds options then within (near_bounds_in options) most_near_delay most_near_jitter else Ok None
