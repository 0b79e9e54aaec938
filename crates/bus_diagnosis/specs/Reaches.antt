-- How far a cable reaches, and whether a table bears it.
use Rattle.std.specs.Prelude.{ℕ, max, nat_lt, Bool, ◌&&◌, ◌==◌, List, [], ◌∷◌, ◌++◌, map, if◌then◌else◌}
use Rattle.std.specs.List.{flat_map}
use Rattle.bus_table.specs.declared.mode.Mode.{Mode}
use Rattle.bus_table.specs.declared.mode.Mode.TheVariants.{Aperiodic, Periodic}
use Rattle.bus_table.specs.Tables.{Sender, Table}
use Rattle.bus_medium.specs.Delays.{distance}
use Rattle.bus_medium.specs.Wakes.{Wakes}
use Rattle.bus_reach.specs.Bearing.{bears, tolerance_of}
use Rattle.bus_cable.specs.Cables as cables
use Rattle.bus_cable.specs.Cables.{place_on, wakes_on}
pub use Rattle.bus_diagnosis.specs.declared.reach.Pair.{Pair}
pub use Rattle.bus_diagnosis.specs.declared.reach.Reach.{Reach}

-- A sender and a terminal of these numbers, at their places.
abbrev pub pair_of : (ℕ → ℕ) → (sender terminal : ℕ) → Pair
pair_of place sender terminal = record { sender = sender; terminal = terminal; bits = distance (place sender) (place terminal) }

-- The pairs of a sender with all terminals of a table: its senders, then its listeners.
abbrev pub pairs_with : Table → (ℕ → ℕ) → Sender → List Pair
pairs_with table place sender =
    map (λ other. pair_of place sender.number other.number) table.senders
    ++ map (λ other. pair_of place sender.number other.number) table.listeners

-- The farther of two pairs, and the first where they are as far.
abbrev pub farther : Pair → Pair → Pair
farther found pair = if nat_lt found.bits pair.bits then pair else found

-- The first of the farthest of a pair and others.
abbrev pub farthest : Pair → List Pair → Pair
farthest found [] = found
farthest found (pair ∷ others) = farthest (farther found pair) others

-- No terminals, which aren't apart.
abbrev pub nowhere : Pair
nowhere = record { sender = 0; terminal = 0; bits = 0 }

-- The farthest pair of a sender and a terminal of a table; where none are apart, no terminals.
abbrev pub farthest_pair : Table → (ℕ → ℕ) → Pair
farthest_pair table place = farthest nowhere (flat_map (pairs_with table place) table.senders)

-- When the last of senders wakes.
abbrev pub last_wake : Wakes → List Sender → ℕ
last_wake wake [] = 0
last_wake wake (sender ∷ others) = max (wake sender.number) (last_wake wake others)

-- Whether a table of this mode bears terminals so far apart, and wakes so late.
abbrev pub is_borne_in : Mode → Table → (bits wake : ℕ) → Bool
is_borne_in Aperiodic table bits wake = bears table bits && bears table wake
is_borne_in Periodic table bits wake = bears table bits && (wake == 0)

-- Whether a table does.
abbrev pub is_borne : Table → (bits wake : ℕ) → Bool
is_borne table bits wake = is_borne_in table.mode table bits wake

-- How far a cable reaches whose farthest pair and last wake these are.
abbrev pub reach_with : Table → Pair → ℕ → Reach
reach_with table pair wake = record {
  pair = pair;
  wake = wake;
  mode = table.mode;
  tolerance = tolerance_of table;
  borne = is_borne table pair.bits wake;
}

-- How far a cable reaches.
abbrev pub reach_of : Table → cables.Cable → Reach
reach_of table cable = reach_with table (farthest_pair table (place_on cable)) (last_wake (wakes_on cable) table.senders)
