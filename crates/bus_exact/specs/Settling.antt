-- A bus without a master finds its order by itself with delays too: what the senders of an aperiodic table that starts itself do on a cable
-- that the table bears, whenever they were powered up. `bus_reach` says so of them without delays (`specs/Settling.antt`).
--   d   no sender hears another later by more than this
use Rattle.std.specs.Prelude.{◌≡◌, ◌≢◌, ℕ, ◌+◌, ◌<◌, ◌≤◌, ◌⊎◌, IsTrue, List, [], ◌∷◌, ◌++◌, length}
use Rattle.bus_strings.specs.Members.{In}
use Rattle.bus_strings.specs.Messages.{Entry}
use Rattle.bus_strings.specs.Transmissions.{end_of}
use Rattle.bus_table.specs.declared.mode.Mode.TheVariants.{Aperiodic}
use Rattle.bus_table.specs.Hands.{are_hands}
use Rattle.bus_table.specs.Tables.{Sender, Table, Hand, sender_numbers}
use Rattle.bus_table.specs.Turns.{turn_order}
use Rattle.bus_table.specs.Valid.{is_valid}
use Rattle.bus_medium.specs.CableLawful.{IsLawfulOnCable}
use Rattle.bus_medium.specs.Delays.{Delays, AreDelays, HearsWithin, heard}
use Rattle.bus_medium.specs.Timings.{quiet_of, stations_of}
use Rattle.bus_medium.specs.Wakes.{Wakes}
use Rattle.bus_regime.specs.Starting.{starts_itself}
use Rattle.bus_regime.specs.Verdicts.{least_cycle, most_cycle}
use Rattle.bus_schedule.specs.CableRuns.{clear_within}
use Rattle.bus_schedule.specs.Even.{messages_of}
use Rattle.bus_schedule.specs.Runs.{IsClear}
use Rattle.bus_reach.specs.Bearing.{bears}
use Rattle.bus_reach.specs.Runs.{cycle_delay}
use Rattle.bus_reach.specs.Settling.{behind, until, ArePoweredUp, HaveLeft}
use Rattle.bus_exact.specs.Exact.{delay_among}

-- Up to the horizon these transmissions are rounds of the senders `first ∷ others`, where sender a is next, `rest` speak behind it in its
-- round, and they count their terminal gaps from this moment, or up to d later, as each has heard the end of what came before: a starts its
-- terminal gap behind that. Those of the round that have yet to speak count from the end of its transmission, and behind the last one of a
-- round all count from one synchronization gap later. Where no more transmission follows, the horizon comes before the next would start.
abbrev pub InRoundsWithin : ℕ → ℕ → Sender → List Sender → ℕ → Sender → List Sender → ℕ → List Entry → Type 0
InRoundsWithin d sg first others horizon a rest from [] = horizon ≤ from + d + a.tg
InRoundsWithin d sg first others horizon a [] from (x ∷ list) =
    (x.terminal ≡ a.number) × (from + a.tg ≤ x.moment) × (x.moment ≤ from + d + a.tg)
    × InRoundsWithin d sg first others horizon first others (end_of x + sg) list
InRoundsWithin d sg first others horizon a (b ∷ rest) from (x ∷ list) =
    (x.terminal ≡ a.number) × (from + a.tg ≤ x.moment) × (x.moment ≤ from + d + a.tg)
    × InRoundsWithin d sg first others horizon b rest (end_of x) list

-- Up to the horizon these transmissions are whole rounds in this order, from this moment on; the last one may be cut off by the horizon.
abbrev pub AreRoundsWithin : ℕ → ℕ → List Sender → ℕ → ℕ → List Entry → Type 0
AreRoundsWithin d sg [] horizon from list = list ≡ []
AreRoundsWithin d sg (first ∷ others) horizon from list = InRoundsWithin d sg first others horizon first others from list

-- Behind transmission x the next one of its sender comes no earlier and no later than so many bit times; or where none comes any more, the
-- horizon comes before.
abbrev pub ComesAgain : ℕ → ℕ → ℕ → Entry → List Entry → Type 0
ComesAgain least most horizon x [] = horizon ≤ x.moment + most
ComesAgain least most horizon x (y ∷ list) =
    ((y.terminal ≡ x.terminal) × (x.moment + least ≤ y.moment) × (y.moment ≤ x.moment + most))
    ⊎ ((y.terminal ≢ x.terminal) × ComesAgain least most horizon x list)

-- It is so of each of these transmissions.
abbrev pub ComeAgain : ℕ → ℕ → ℕ → List Entry → Type 0
ComeAgain least most horizon [] = Unit {0}
ComeAgain least most horizon (x ∷ list) = ComesAgain least most horizon x list × ComeAgain least most horizon list

-- Where all have been powered up at moment `up`, the list has settled at moment `origin`:
--   soon     that is, with a delay, no later than a longest cycle, a synchronization gap, and a delay for each sender behind `up`
--   parts    the list is what started before, and then what started at `origin` or later
--   rounds   the latter is rounds: all senders speak in turn order, round by round, up to the horizon, with nothing missing and nothing
--            else, each at its terminal gap behind where it heard the end of the one before
--   clear    no terminal that hears every sender soon enough, be it a sender or a listener, hears two of them overlap
--   spaced   from one start of a sender to the next it takes a shortest cycle at least, and at most a longest one with its delays
--   quiet    what started before has ended one synchronization gap before
--   once     and of what started before, but not before `up`, each sender sent one transmission at most.
pub record HasSettledOnCable (table : Table) (delay : Delays) (d up horizon : ℕ) (list : List Entry) : Type 0 where
  pub origin : ℕ
  pub soon : origin + delay_among table d ≤ up + most_cycle table + table.sg + cycle_delay table d
  pub parts : list ≡ until origin list ++ behind origin list
  pub rounds : AreRoundsWithin (delay_among table d) table.sg (turn_order table) horizon origin (behind origin list)
  pub clear : (number : ℕ) → HearsWithin (clear_within table d) (sender_numbers table) delay number
      → IsClear (heard delay number (behind origin list))
  pub spaced : ComeAgain (least_cycle table) (most_cycle table + cycle_delay table d) horizon (behind origin list)
  pub quiet : (x : Entry) → In x list → x.moment < origin → end_of x + table.sg ≤ origin
  pub once : (x y : Entry) → In x list → In y list → x.terminal ≡ y.terminal → up ≤ x.moment → x.moment < y.moment → origin ≤ y.moment

-- An aperiodic table that starts itself settles with all delays between its senders that it bears, whenever they are powered up and
-- whatever they have sent until then.
abbrev pub AnyStartSettlesOnCable : Type 0
AnyStartSettlesOnCable =
    (table : Table) (hands : List Hand) (delay : Delays) (wake : Wakes) (d up horizon : ℕ) (list : List Entry) → IsTrue (is_valid table)
    → table.mode ≡ Aperiodic → IsTrue (starts_itself table) → IsTrue (bears table d) → IsTrue (are_hands table.senders hands)
    → AreDelays d (sender_numbers table) delay → ArePoweredUp table wake up → HaveLeft table hands horizon list
    → up + most_cycle table + table.sg + cycle_delay table d ≤ horizon
    → IsLawfulOnCable (quiet_of table) delay wake (stations_of table hands) horizon list
    → HasSettledOnCable table delay d up horizon list

-- Hands with as many messages as there are bit times before the horizon have some left.
abbrev pub LongHandsLast : Type 0
LongHandsLast =
    (table : Table) (hands : List Hand) (delay : Delays) (wake : Wakes) (horizon : ℕ) (list : List Entry)
    → ((sender : Sender) → In sender table.senders → horizon ≤ length (messages_of hands sender.number))
    → IsLawfulOnCable (quiet_of table) delay wake (stations_of table hands) horizon list → HaveLeft table hands horizon list
