-- A bus without a master finds its order by itself: what the senders of an aperiodic table do, whenever they were powered up, where no
-- transmit interval outlasts what a sender waits and sends at least from one start to the next.
use Rattle.std.specs.Prelude.{◌≡◌, ℕ, zero, suc, ◌+◌, ◌*◌, ◌<◌, ◌≤◌, nat_le, nat_lt, IsTrue, List, [], ◌∷◌, ◌++◌, length, drop}
use Rattle.std.specs.List.{filter}
use Rattle.bus_strings.specs.Members.{In}
use Rattle.bus_strings.specs.Messages.{Message, Entry}
use Rattle.bus_strings.specs.Transmissions.{end_of}
use Rattle.bus_table.specs.declared.mode.Mode.TheVariants.{Aperiodic}
use Rattle.bus_table.specs.Tables.{Sender, Table, Hand}
use Rattle.bus_table.specs.Hands.{are_hands}
use Rattle.bus_table.specs.Turns.{turn_order}
use Rattle.bus_table.specs.Valid.{is_valid}
use Rattle.bus_medium.specs.Past.{own}
use Rattle.bus_medium.specs.Delays.{at_once}
use Rattle.bus_medium.specs.Wakes.{Wakes}
use Rattle.bus_medium.specs.Timings.{quiet_of, stations_of}
use Rattle.bus_regime.specs.Verdicts.{most_cycle, verdict_of, is_accepted}
use Rattle.bus_schedule.specs.Closed.{turns, turns_end, in_rounds}
use Rattle.bus_schedule.specs.Even.{messages_of}
use Rattle.bus_schedule.specs.Runs.{IsClear}
use Rattle.bus_medium.specs.CableLawful.{IsLawfulOnCable}
use Rattle.bus_regime.specs.Starting.{starts_itself}

-- The transmissions that start at moment t or later.
abbrev pub behind : ℕ → List Entry → List Entry
behind t list = filter (λ x. nat_le t x.moment) list

-- The transmissions that start before moment t.
abbrev pub until : ℕ → List Entry → List Entry
until t list = filter (λ x. nat_lt x.moment t) list

-- Up to the horizon these transmissions are rounds of the senders `first ∷ others`, where sender a is next, `rest` speak behind it in its
-- round, and they count their terminal gaps from this moment: a starts its terminal gap behind it. Those of the round that have yet to
-- speak count from the end of its transmission, and behind the last one of a round all count from one synchronization gap later. Where no
-- more transmission follows, the next would start no earlier than the horizon.
abbrev pub InRounds : ℕ → Sender → List Sender → ℕ → Sender → List Sender → ℕ → List Entry → Type 0
InRounds sg first others horizon a rest from [] = horizon ≤ from + a.tg
InRounds sg first others horizon a [] from (x ∷ list) =
    (x.terminal ≡ a.number) × (x.moment ≡ from + a.tg) × InRounds sg first others horizon first others (end_of x + sg) list
InRounds sg first others horizon a (b ∷ rest) from (x ∷ list) =
    (x.terminal ≡ a.number) × (x.moment ≡ from + a.tg) × InRounds sg first others horizon b rest (end_of x) list

-- Up to the horizon these transmissions are whole rounds in this order, from this moment on; the last one may be cut off by the horizon.
abbrev pub AreRounds : ℕ → List Sender → ℕ → ℕ → List Entry → Type 0
AreRounds sg [] horizon from list = list ≡ []
AreRounds sg (first ∷ others) horizon from list = InRounds sg first others horizon first others from list

-- The moment from which a round counts, where the first one counts from moment `start`; the closed schedule's is 0.
abbrev pub round_from : (ℕ → List Message) → ℕ → List Sender → ℕ → ℕ → ℕ
round_from messages sg order start zero = start
round_from messages sg order start (suc round) = turns_end messages round order (round_from messages sg order start round) + sg

-- So many rounds of the closed schedule from moment `start` on.
abbrev pub rounds_from : (ℕ → List Message) → ℕ → List Sender → ℕ → ℕ → List Entry
rounds_from messages sg order start n = in_rounds (λ round. turns messages round order (round_from messages sg order start round)) n

-- The messages that each terminal has left at moment t.
abbrev pub left_at : List Hand → List Entry → ℕ → ℕ → List Message
left_at hands list t number = drop (length (own list number t)) (messages_of hands number)

-- The one list, and then more.
abbrev pub Begins : List Entry → List Entry → Type 0
Begins list whole = (more : List Entry) × (whole ≡ list ++ more)

-- Where all have been powered up at moment `up`, the list has settled at moment `origin`:
--   soon     that is no later than a longest cycle and a synchronization gap behind `up`
--   parts    the list is what started before, and then what started at `origin` or later
--   rounds   the latter is rounds: all senders speak in turn order, round by round, up to the horizon, with nothing missing and nothing
--            else. The first counts its terminal gap, the least, from `origin`
--   closed   of enough rounds of the closed schedule, of the messages that they have left, these transmissions are the beginning
--   clear    none of them overlaps another
--   quiet    what started before has ended one synchronization gap before
--   once     and of what started before, but not before `up`, each sender sent one transmission at most.
pub record HasSettled (table : Table) (hands : List Hand) (up horizon : ℕ) (list : List Entry) : Type 0 where
  pub origin : ℕ
  pub soon : origin ≤ up + most_cycle table + table.sg
  pub parts : list ≡ until origin list ++ behind origin list
  pub rounds : AreRounds table.sg (turn_order table) horizon origin (behind origin list)
  pub closed : (n : ℕ) → length (behind origin list) ≤ n * length table.senders
      → Begins (behind origin list) (rounds_from (left_at hands list origin) table.sg (turn_order table) origin n)
  pub clear : IsClear (behind origin list)
  pub quiet : (x : Entry) → In x list → x.moment < origin → end_of x + table.sg ≤ origin
  pub once : (x y : Entry) → In x list → In y list → x.terminal ≡ y.terminal → up ≤ x.moment → x.moment < y.moment → origin ≤ y.moment

-- Each sender has been powered up at moment `up`: its wake is one synchronization gap behind its power-up.
abbrev pub ArePoweredUp : Table → Wakes → ℕ → Type 0
ArePoweredUp table wake up = (sender : Sender) → In sender table.senders → wake sender.number ≤ up + table.sg

-- At each moment before the horizon each sender has sent fewer messages than its hand has.
abbrev pub HaveLeft : Table → List Hand → ℕ → List Entry → Type 0
HaveLeft table hands horizon list =
    (sender : Sender) (t : ℕ) → In sender table.senders → t < horizon
    → length (own list sender.number t) < length (messages_of hands sender.number)

-- An aperiodic table that starts itself settles, whenever its senders are powered up and whatever they have sent until then.
abbrev pub AnyStartSettles : Type 0
AnyStartSettles =
    (table : Table) (hands : List Hand) (wake : Wakes) (up horizon : ℕ) (list : List Entry) → IsTrue (is_valid table)
    → table.mode ≡ Aperiodic → IsTrue (starts_itself table) → IsTrue (are_hands table.senders hands) → ArePoweredUp table wake up
    → HaveLeft table hands horizon list
    → up + most_cycle table + table.sg ≤ horizon → IsLawfulOnCable (quiet_of table) at_once wake (stations_of table hands) horizon list
    → HasSettled table hands up horizon list

-- Hands with as many messages as there are bit times before the horizon have some left.
abbrev pub LongHandsLast : Type 0
LongHandsLast =
    (table : Table) (hands : List Hand) (wake : Wakes) (horizon : ℕ) (list : List Entry)
    → ((sender : Sender) → In sender table.senders → horizon ≤ length (messages_of hands sender.number))
    → IsLawfulOnCable (quiet_of table) at_once wake (stations_of table hands) horizon list → HaveLeft table hands horizon list

-- A table that starts itself is accepted.
abbrev pub StartsItselfIsAccepted : Type 0
StartsItselfIsAccepted =
    (table : Table) → IsTrue (is_valid table) → table.mode ≡ Aperiodic → IsTrue (starts_itself table)
    → IsTrue (is_accepted (verdict_of table))
