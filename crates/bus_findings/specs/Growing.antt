-- A recording that grows: what is found at each transmission as soon as it has come, and who was due up to a moment.
use Rattle.std.specs.Prelude.{ℕ, ◌+◌, ◌≤◌, List, Option, None}
use Rattle.std.specs.Option.{option_map_or}
use Rattle.bus_strings.specs.Members.{In}
use Rattle.bus_strings.specs.Messages.{Entry}
use Rattle.bus_strings.specs.Transmissions.{Precedes}
use Rattle.bus_table.specs.Tables.{Sender, Table}
use Rattle.bus_bounds.specs.Bounds.{Bounds}
use Rattle.bus_findings.specs.declared.judgement.Due.{Due}
use Rattle.bus_findings.specs.Recorded.{recorded, monitor_of, timers_of}
use Rattle.bus_findings.specs.Dues.{due_of}
use Rattle.bus_findings.specs.Judging.{last_start}

-- The bounds and the table by which it is judged, and what came so far.
pub record Growing : Type 0 where
  pub bounds : Bounds
  pub table : Table
  pub list : List Entry

-- Each of these stands before a transmission.
abbrev pub Precede : List Entry → Entry → Type 0
Precede list x = (z : Entry) → In z list → Precedes z x

-- None of these begins behind a moment.
abbrev pub AreBy : List Entry → ℕ → Type 0
AreBy list moment = (x : Entry) → In x list → x.moment ≤ moment

-- When a sender was due for certain behind its last start, before a moment up to which all is told.
unfoldable pub due_until : Bounds → Table → List Entry → Sender → ℕ → Option Due
due_until bounds table list sender until =
    option_map_or (λ o. due_of (timers_of bounds table sender) (monitor_of bounds table) (recorded bounds list) o until)
    (last_start (recorded bounds list) sender.number (until + 1)) None
