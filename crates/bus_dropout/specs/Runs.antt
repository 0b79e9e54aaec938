-- What a run of an aperiodic table is whose senders fall silent.
use Rattle.std.specs.Prelude.{◌≡◌, ℕ, ◌<◌, List, length, slice_get, Some}
use Rattle.bus_strings.specs.Messages.{Entry}
use Rattle.bus_table.specs.Tables.{Sender, Table, Hand}
use Rattle.bus_medium.specs.Lawful.{IsLawful}
use Rattle.bus_medium.specs.Timings.{quiet_of, stations_of}
use Rattle.bus_schedule.specs.Closed.{in_rounds}
use Rattle.bus_schedule.specs.Even.{messages_of}
use Rattle.bus_schedule.specs.Live.{live}
use Rattle.bus_schedule.specs.Runs.{HasTurn, IsClear}
use Rattle.bus_dropout.specs.DropOut.{dropout, drop_end, most_messages}

-- The list is message `round` of each of these senders, in their order, and nothing else: at each place the sender there has its turn.
pub record IsRoundOf (hands : List Hand) (round : ℕ) (senders : List Sender) (list : List Entry) : Type 0 where
  pub whole : length list ≡ length senders
  pub turn : (place : ℕ) (sender : Sender) → slice_get senders place ≡ Some sender → HasTurn hands list place round sender

-- The list is rounds, one after the other, as many as a hand has messages at most: each of the senders that have a message left, in turn
-- order.
pub record IsInLiveRounds (table : Table) (hands : List Hand) (list : List Entry) : Type 0 where
  pub round : ℕ → List Entry
  pub whole : list ≡ in_rounds round (most_messages hands)
  pub each : (r : ℕ) → r < most_messages hands → IsRoundOf hands r (live table (messages_of hands) r) (round r)

-- The list is the run of a table and hands:
--   dropout   it is the drop-out schedule, in whole
--   lawful    each sender starts exactly when its three timers allow and it has a message left, up to the end of the schedule
--   only      no other list is lawful up to there
--   clear     no two transmissions overlap
--   rounds    every round holds each sender that has a message left once, in turn order
pub record IsDropRun (table : Table) (hands : List Hand) (list : List Entry) : Type 0 where
  pub dropout : list ≡ dropout table hands
  pub lawful : IsLawful (quiet_of table) (stations_of table hands) (drop_end table hands) list
  pub only : (other : List Entry) → IsLawful (quiet_of table) (stations_of table hands) (drop_end table hands) other → other ≡ list
  pub clear : IsClear list
  pub rounds : IsInLiveRounds table hands list
