-- What the senders of a table do on a straight cable.
--   place   of each terminal, in bit times from the cable's beginning
--   wake    of each sender: the moment at which it has been powered up for as long as the bus is quiet before the settled start
use Rattle.std.specs.Prelude.{◌≡◌, ℕ, List}
use Rattle.bus_strings.specs.Messages.{Entry}
use Rattle.bus_table.specs.Tables.{Table, Hand}
use Rattle.bus_medium.specs.CableLawful.{IsLawfulOnCable}
use Rattle.bus_medium.specs.Delays.{cable}
use Rattle.bus_medium.specs.Timings.{quiet_of, stations_of}
use Rattle.bus_medium.specs.Wakes.{Wakes}

-- The list is what they do with these hands, places and wakes up to the horizon.
abbrev pub IsListOnCable : Table → List Hand → (ℕ → ℕ) → Wakes → ℕ → List Entry → Type 0
IsListOnCable table hands place wake horizon = IsLawfulOnCable (quiet_of table) (cable place) wake (stations_of table hands) horizon

-- No other list is.
abbrev pub IsOnlyListOnCable : Table → List Hand → (ℕ → ℕ) → Wakes → ℕ → List Entry → Type 0
IsOnlyListOnCable table hands place wake horizon list = (other : List Entry) → IsListOnCable table hands place wake horizon other
    → other ≡ list
