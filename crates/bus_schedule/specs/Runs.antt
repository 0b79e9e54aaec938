-- What a run of an accepted table and even hands is.
--   round   one message of each sender, of the same place in its hand. Rounds are counted from 0
use Rattle.std.specs.Prelude.{◌≡◌, ℕ, ◌+◌, ◌*◌, ◌<◌, ◌≤◌, List, length, slice_get, Some}
use Rattle.bus_strings.specs.Messages.{Entry}
pub use Rattle.bus_strings.specs.Transmissions.{IsClear}
use Rattle.bus_table.specs.declared.mode.Mode.{Mode}
use Rattle.bus_table.specs.Tables.{Sender, Table, Hand}
use Rattle.bus_table.specs.Turns.{turn_order}
use Rattle.bus_timers.specs.declared.cores.Core.{Ghosts}
use Rattle.bus_medium.specs.Buses.{Seat, Bus}
use Rattle.bus_medium.specs.Lawful.{IsLawful}
use Rattle.bus_medium.specs.Timings.{quiet_of, stations_of}
use Rattle.bus_regime.specs.declared.table_verdict.TableVerdict.TheVariants.{Accept}
use Rattle.bus_regime.specs.Verdicts.{verdict_of}
use Rattle.bus_schedule.specs.Even.{messages_of, rounds}
use Rattle.bus_schedule.specs.Closed.{closed, closed_end}

-- The transmission at this place of the list is message `round` of the sender.
pub record HasTurn (hands : List Hand) (list : List Entry) (place round : ℕ) (sender : Sender) : Type 0 where
  pub entry : Entry
  pub at : slice_get list place ≡ Some entry
  pub terminal : entry.terminal ≡ sender.number
  pub message : slice_get (messages_of hands sender.number) round ≡ Some entry.message

-- The list is its rounds, one after the other: each holds each sender once, in turn order, and nothing else. Of K senders, entry
-- `round * K + turn` is message `round` of the sender at place `turn` of turn order.
pub record IsInTurns (table : Table) (hands : List Hand) (list : List Entry) : Type 0 where
  pub whole : length list ≡ rounds hands * length table.senders
  pub turn : (round turn : ℕ) (sender : Sender) → round < rounds hands → slice_get (turn_order table) turn ≡ Some sender →
      HasTurn hands list (round * length table.senders + turn) round sender

-- X and y are of one sender, and y starts at least `least` and at most `most` bit times behind x.
pub record IsApart (least most : ℕ) (x y : Entry) : Type 0 where
  pub one_sender : x.terminal ≡ y.terminal
  pub no_sooner : x.moment + least ≤ y.moment
  pub no_later : y.moment ≤ x.moment + most

-- Two successive starts of one sender are as far apart as the numbers say with which the verdict accepts the table: in periodic mode
-- exactly one transmit interval.
pub record IsPaced (table : Table) (list : List Entry) : Type 0 where
  pub apart : (mode : Mode) (least most k : ℕ) (x y : Entry) → verdict_of table ≡ Accept mode least most → slice_get list k ≡ Some x
      → slice_get list (k + length table.senders) ≡ Some y → IsApart least most x y

-- Each core of the bus was moved at most n times since it was settled.
abbrev pub HaveMoved : {C : Type 0} → Ghosts C → ℕ → Bus C → Type 0
HaveMoved {C} core n bus = (k : ℕ) (seat : Seat C) → slice_get bus.seats k ≡ Some seat → core.moves seat.terminal.core ≤ n

-- The list is the run of a table and even hands:
--   closed    it is the closed schedule, in whole
--   lawful    each sender starts exactly when its three timers allow and it has a message left, up to the closed end
--   only      no other list is lawful up to there
--   clear     no two transmissions overlap
--   turns     every round holds each sender once, in turn order
--   paced     successive starts of a sender are as far apart as the verdict says
pub record IsRun (table : Table) (hands : List Hand) (list : List Entry) : Type 0 where
  pub closed : list ≡ closed table hands
  pub lawful : IsLawful (quiet_of table) (stations_of table hands) (closed_end table hands) list
  pub only : (other : List Entry) → IsLawful (quiet_of table) (stations_of table hands) (closed_end table hands) other → other ≡ list
  pub clear : IsClear list
  pub turns : IsInTurns table hands list
  pub paced : IsPaced table list
