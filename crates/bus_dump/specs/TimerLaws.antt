-- What follows of the definitions for the timers of senders. The contracts of `laws` say that each of these holds.
use Rattle.std.specs.Prelude.{◌≡◌, ◌↔◌, ℕ, ◌+◌, ◌-◌, ◌<◌, ◌≤◌, Bool, true, List, length, Option, None, IsTrue}
use Rattle.bus_strings.specs.Members.{In}
use Rattle.bus_strings.specs.Messages.{Entry}
use Rattle.bus_table.specs.Hands.{are_hands}
use Rattle.bus_table.specs.Tables.{Hand, Sender, Table}
use Rattle.bus_table.specs.Valid.{is_valid}
use Rattle.bus_timers.specs.declared.timing.Timing.{Timing}
use Rattle.bus_timers.specs.MayStart.{IsQuiet, IsSync}
use Rattle.bus_timers.specs.MayStartTest.{may_start}
use Rattle.bus_timers.specs.Timings.{due_place}
use Rattle.bus_medium.specs.Lawful.{HasEntry, IsLawful, Station}
use Rattle.bus_medium.specs.Past.{last_place, own, past}
use Rattle.bus_medium.specs.Timings.{quiet_of, stations_of, timing_of}
use Rattle.bus_dump.specs.declared.dump.Dump.TheVariants.{Timers}
use Rattle.bus_dump.specs.Doubled.{doubled}
use Rattle.bus_dump.specs.Scenes.{Scene, scene_at}
use Rattle.bus_dump.specs.Signals.{Interval, Synchronization, Gap, May, Bit, value}

-- A sender may start where its timers allow it, after the past of the list.
abbrev pub StartsAreTold : Type 0
StartsAreTold =
    (breach : Option ℕ) (table : Table) (list : List Entry) (t : ℕ) (sender : Sender) → IsTrue (is_valid table) → In sender table.senders
    → value (May sender.number) (scene_at Timers breach table list t)
    ≡ Bit (may_start (timing_of table sender) (past (quiet_of table) list t)
    (last_place (quiet_of table) (own list sender.number t)))

-- The synchronization gap has elapsed somewhere in the past, with room for so many bit times behind it.
abbrev pub Synchronizes : ℕ → ℕ → List Bool → Option ℕ → Type 0
Synchronizes sg room heard last = (e : ℕ) × (e + room ≤ length heard) × IsSync sg heard last e

-- The terminal gap has elapsed: what `MayStart` asks besides the transmit interval.
pub record GapElapsed (timing : Timing) (heard : List Bool) (last : Option ℕ) : Type 0 where
  pub synchronized : Synchronizes timing.sg timing.tg heard last
  pub gap_fits : timing.tg ≤ length heard
  pub gap : IsQuiet heard (length heard - timing.tg) (length heard)

-- The wires of the timers of the sender with this number, after what it has heard and the place of its last own start. It may start where
-- the transmit interval and the terminal gap have elapsed, and this gap has only where the synchronization gap has.
pub record TimersAgree (scene : Scene) (number : ℕ) (timing : Timing) (heard : List Bool) (last : Option ℕ) : Type 0 where
  pub interval : (value (Interval number) scene ≡ Bit true) ↔ (due_place timing last ≤ length heard)
  pub synchronization : (value (Synchronization number) scene ≡ Bit true) ↔ Synchronizes timing.sg 0 heard last
  pub gap : (value (Gap number) scene ≡ Bit true) ↔ GapElapsed timing heard last
  pub may : (value (May number) scene ≡ Bit true)
      ↔ ((value (Interval number) scene ≡ Bit true) × (value (Gap number) scene ≡ Bit true))
  pub behind : value (Gap number) scene ≡ Bit true → value (Synchronization number) scene ≡ Bit true

-- At each bit time the timers of each sender agree with what it has heard.
abbrev pub TimersAreTold : Type 0
TimersAreTold =
    (breach : Option ℕ) (table : Table) (list : List Entry) (t : ℕ) (sender : Sender) → IsTrue (is_valid table) → In sender table.senders
    → TimersAgree (scene_at Timers breach table list t) sender.number (timing_of table sender) (past (quiet_of table) list t)
    (last_place (quiet_of table) (own list sender.number t))

-- Of what the senders of a table send by their timers, a sender starts exactly where the wire says that it may and it has a message left.
abbrev pub StartsAreSeen : Type 0
StartsAreSeen =
    (breach : Option ℕ) (table : Table) (hands : List Hand) (horizon : ℕ) (list : List Entry) (t : ℕ) (station : Station)
    → IsTrue (is_valid table)
    → IsTrue (are_hands table.senders hands) → IsLawful (quiet_of table) (stations_of table hands) horizon list → t < horizon
    → In station (stations_of table hands)
    → HasEntry list station.number t
    ↔ ((value (May station.number) (scene_at Timers breach table list t) ≡ Bit true)
    × (length (own list station.number t) < length station.hand))

-- What the senders of a table send by their timers is never doubled, whatever hands they have.
abbrev pub LawfulIsSingle : Type 0
LawfulIsSingle =
    (table : Table) (hands : List Hand) (horizon : ℕ) (list : List Entry) → IsTrue (is_valid table) → IsTrue (are_hands table.senders hands)
    → IsLawful (quiet_of table) (stations_of table hands) horizon list → doubled list ≡ None
