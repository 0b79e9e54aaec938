-- A bus without a master may never find its order: what the senders of an aperiodic table do that are all powered up for one moment, where
-- the transmit interval is no shorter than all that each waits and sends.
--
--   up                                up + ti                           up + 2 ti
--   |--longest--|    sg    |tg| ..     |--longest--|    sg    |tg| ..    |
use Rattle.std.specs.Prelude.{◌≡◌, ℕ, ◌+◌, ◌*◌, ◌<◌, ◌≤◌, ◌↔◌, IsTrue, List}
use Rattle.bus_strings.specs.Members.{In}
use Rattle.bus_strings.specs.Messages.{Entry}
use Rattle.bus_table.specs.Hands.{are_hands}
use Rattle.bus_table.specs.Tables.{Sender, Table, Hand}
use Rattle.bus_table.specs.Valid.{is_valid}
use Rattle.bus_table.specs.declared.mode.Mode.TheVariants.{Aperiodic}
use Rattle.bus_medium.specs.CableLawful.{IsLawfulOnCable}
use Rattle.bus_medium.specs.Delays.{at_once}
use Rattle.bus_medium.specs.Lawful.{HasEntry}
use Rattle.bus_medium.specs.Timings.{quiet_of, stations_of}
use Rattle.bus_medium.specs.Wakes.{Wakes}
use Rattle.bus_regime.specs.Starting.{never_parts}
use Rattle.bus_reach.specs.Settling.{HaveLeft}

-- Each sender starts at moment `up`, and one transmit interval later each time, all of them at once, and at no other moment.
abbrev pub StartAtOnce : Table → ℕ → ℕ → List Entry → Type 0
StartAtOnce table up horizon list =
    (sender : Sender) (t : ℕ) → In sender table.senders → t < horizon → HasEntry list sender.number t ↔ ((k : ℕ) × (t ≡ up + k * table.ti))

-- There are wakes with which the senders of a table do so, whatever they have to send, as long as messages are left: all collide in every
-- cycle, where there are two or more.
pub record CollideForEver (table : Table) : Type 0 where
  pub wake : Wakes
  pub up : ℕ
  pub once : (hands : List Hand) (horizon : ℕ) (list : List Entry) → IsTrue (are_hands table.senders hands)
      → HaveLeft table hands horizon list
      → IsLawfulOnCable (quiet_of table) at_once wake (stations_of table hands) horizon list → StartAtOnce table up horizon list

-- So it is of a table whose senders never part.
abbrev pub SomeNeverPart : Type 0
SomeNeverPart =
    (table : Table) → IsTrue (is_valid table) → table.mode ≡ Aperiodic → IsTrue (never_parts table) → CollideForEver table
