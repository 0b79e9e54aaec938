-- A place in a running message, kept so that the next bit time takes no search.
--   pulse: the pulse at this place, or the one before it. on: whether the place is in the pulse, or in the quiet behind it.
--   left: the bit times of the pulse, or of the quiet, that are still to come, the present one included.
use Rattle.std.specs.Prelude.{ℕ, ◌+◌, ◌-◌, ◌<◌, ◌≤◌, length, if◌then◌else◌}
use Rattle.std.specs.Bool.{MatchBool}
use Rattle.bus_strings.specs.Limits.{inner_gap}
use Rattle.bus_strings.specs.Messages.{Message}
use Rattle.bus_strings.specs.Pulses.{pulse_start, pulse_length}
use Rattle.bus_medium.specs.declared.place.Place.{Place}

-- The bit time of the message at which the place is, counted from its first.
abbrev pub place_of : Message → Place → ℕ
place_of message place =
    pulse_start message place.pulse + pulse_length message place.pulse + (if place.on then 0 else inner_gap) - place.left

-- The place is one of the message.
pub record IsPlace (message : Message) (place : Place) : Type 0 where
  pub pulse : place.pulse < length message
  pub some : 1 ≤ place.left
  pub most : place.left ≤ (if place.on then pulse_length message place.pulse else inner_gap)
  pub more : MatchBool place.on (Unit {0}) (place.pulse + 1 < length message)
