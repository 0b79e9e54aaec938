-- The growing schedule of an aperiodic table, by this project's profile: senders are powered up whenever they like, and each takes its turn
-- from the first round on whose beginning it hears no earlier than it wakes. It knows rounds and no timers.
--   count   for the number of a terminal: how many messages it has sent
--   from    for the number of a terminal: the moment from which it counts its terminal gap
use Rattle.std.specs.Prelude.{ℕ, zero, suc, ◌+◌, ◌≤◌, ◌==◌, Bool, nat_le, List, [], ◌∷◌, ◌++◌, if◌then◌else◌}
use Rattle.std.specs.List.{filter, list_any}
use Rattle.bus_strings.specs.Members.{In}
use Rattle.bus_strings.specs.Messages.{Message, Entry}
use Rattle.bus_table.specs.Tables.{Sender, Table, Hand}
use Rattle.bus_table.specs.Turns.{turn_order}
use Rattle.bus_schedule.specs.Closed.{sends}
use Rattle.bus_schedule.specs.Even.{messages_of, rounds}
use Rattle.bus_medium.specs.Delays.{Delays, heard_end}
use Rattle.bus_medium.specs.Wakes.{Wakes}

-- The turns of a round: each sends the next message of its hand.
abbrev pub grow_turns : Delays → (ℕ → List Message) → (ℕ → ℕ) → List Sender → (ℕ → ℕ) → List Entry
grow_turns delay messages count [] from = []
grow_turns delay messages count (sender ∷ order) from =
    sends messages (count sender.number) sender (from sender.number + sender.tg)
    ∷ grow_turns delay messages count order (heard_end delay (sends messages (count sender.number) sender (from sender.number + sender.tg)))

-- Where each terminal heard the end of the last of these turns.
abbrev pub grow_heard : Delays → (ℕ → List Message) → (ℕ → ℕ) → List Sender → (ℕ → ℕ) → ℕ → ℕ
grow_heard delay messages count [] from = from
grow_heard delay messages count (sender ∷ order) from =
    grow_heard delay messages count order (heard_end delay (sends messages (count sender.number) sender (from sender.number + sender.tg)))

-- Whether a sender hears the beginning of this transmission no earlier than it wakes.
abbrev pub hears_awake : Delays → Wakes → Entry → Sender → Bool
hears_awake delay wake x sender = nat_le (wake sender.number) (x.moment + delay x sender.number)

-- The senders of a round: the first in turn order, and those of the others that hear its transmission awake.
abbrev pub members : Delays → Wakes → (ℕ → List Message) → (ℕ → ℕ) → List Sender → (ℕ → ℕ) → List Sender
members delay wake messages count [] from = []
members delay wake messages count (first ∷ others) from =
    first ∷ filter (hears_awake delay wake (sends messages (count first.number) first (from first.number + first.tg))) others

-- A growing schedule so far.
pub record Growth : Type 0 where
  pub from : ℕ → ℕ
  pub count : ℕ → ℕ
  pub list : List Entry

-- A round more, one synchronization gap later.
abbrev pub grow_on : Delays → Wakes → (ℕ → List Message) → ℕ → List Sender → Growth → Growth
grow_on delay wake messages sg order growth = record {
  from = λ number. grow_heard delay messages growth.count (members delay wake messages growth.count order growth.from) growth.from number
      + sg;
  count = λ number. growth.count number
      + (if list_any (λ sender. sender.number == number) (members delay wake messages growth.count order growth.from) then 1 else 0);
  list = growth.list ++ grow_turns delay messages growth.count (members delay wake messages growth.count order growth.from) growth.from;
}

-- So many rounds.
abbrev pub grown : Delays → Wakes → (ℕ → List Message) → ℕ → List Sender → ℕ → Growth
grown delay wake messages sg order zero = record { from = wake; count = λ _. 0; list = [] }
grown delay wake messages sg order (suc n) = grow_on delay wake messages sg order (grown delay wake messages sg order n)

-- The senders of a round, counted from 0.
abbrev pub round_members : Delays → Wakes → Table → List Hand → ℕ → List Sender
round_members delay wake table hands round =
    members delay wake (messages_of hands) (grown delay wake (messages_of hands) table.sg (turn_order table) round).count (turn_order table)
    (grown delay wake (messages_of hands) table.sg (turn_order table) round).from

-- The turns of a round, counted from 0.
abbrev pub round_turns : Delays → Wakes → Table → List Hand → ℕ → List Entry
round_turns delay wake table hands round =
    grow_turns delay (messages_of hands) (grown delay wake (messages_of hands) table.sg (turn_order table) round).count
    (round_members delay wake table hands round) (grown delay wake (messages_of hands) table.sg (turn_order table) round).from

-- The sender isn't in the round before this one.
abbrev pub IsNewIn : (ℕ → List Sender) → ℕ → Sender → Type 0
IsNewIn members_of zero sender = Unit {0}
IsNewIn members_of (suc round) sender = In sender (members_of round) → ⊥

-- The senders of the first round.
abbrev pub founders : Delays → Wakes → Table → List Hand → List Sender
founders delay wake table hands = members delay wake (messages_of hands) (λ _. 0) (turn_order table) wake

-- The growing schedule of a table and even hands: as many rounds as the first sender has messages.
abbrev pub growing : Delays → Wakes → Table → List Hand → List Entry
growing delay wake table hands = (grown delay wake (messages_of hands) table.sg (turn_order table) (rounds hands)).list

-- None of the other senders wakes earlier than the first in turn order by more than `most`.
abbrev pub IsFirstAwake : ℕ → (ℕ → ℕ) → List Sender → Type 0
IsFirstAwake most wake [] = Unit {0}
IsFirstAwake most wake (first ∷ others) = (sender : Sender) → In sender others → wake first.number ≤ wake sender.number + most
