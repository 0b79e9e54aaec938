-- A bus on a cable: where its terminals are, and when they wake.
--   place   of a terminal on a straight cable, in bit times from the cable's beginning
--   wake    of a sender: the moment at which it has been powered up for as long as the bus is quiet before the settled start
-- A cable text names places and wakes terminal by terminal. One that it doesn't name is 0; a 0 that is named is kept.
use Rattle.std.specs.Prelude.{ℕ, ◌+◌, ◌-◌, ◌^◌, Bool, true, ◌&&◌, ◌==◌, nat_le, List, [], ◌∷◌}
use Rattle.std.specs.List.{find}
use Rattle.std.specs.Option.{option_map_or}
use Rattle.std.specs.Int.{is_in_range as is_between}
use Rattle.bus_strings.specs.Limits.{most_terminal}
use Rattle.bus_medium.specs.Delays.{Delays, cable}
use Rattle.bus_medium.specs.Wakes.{Wakes}
use Rattle.bus_propagation.specs.Numbered.{most_place}
use Rattle.bus_cable.specs.declared.cable.Named.{Named}

-- The greatest wake.
abbrev pub most_wake : ℕ
most_wake = 2 ^ 40 - 1

-- The places and the wakes that a cable text names, in order.
pub record Cable : Type 0 where
  pub places : List Named
  pub wakes : List Named

-- Whether a number of bit times may be named behind one for the terminal `last`: it is for a higher terminal, and at most `most`.
abbrev pub may_name : ℕ → ℕ → Named → Bool
may_name most last named = is_between (last + 1) most_terminal named.terminal && nat_le named.bits most

-- Whether each of these may be named behind the one before it, and the first behind `last`.
abbrev pub may_name_all : ℕ → ℕ → List Named → Bool
may_name_all most last [] = true
may_name_all most last (named ∷ others) = may_name most last named && may_name_all most named.terminal others

-- Whether all places and wakes are in their ranges, and their terminals ascend.
abbrev pub is_cable : Cable → Bool
is_cable cable = may_name_all most_place 0 cable.places && may_name_all most_wake 0 cable.wakes

-- The bit times that are named for a terminal, 0 where none are.
abbrev pub bits_for : List Named → ℕ → ℕ
bits_for named terminal = option_map_or (λ one. one.bits) (find (λ one. one.terminal == terminal) named) 0

-- The place of each terminal.
abbrev pub place_on : Cable → ℕ → ℕ
place_on cable = bits_for cable.places

-- The delays between the terminals: the distance of their places.
abbrev pub delays_on : Cable → Delays
delays_on on = cable (place_on on)

-- The wake of each terminal.
abbrev pub wakes_on : Cable → Wakes
wakes_on cable = bits_for cable.wakes
