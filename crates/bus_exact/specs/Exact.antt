-- The senders of an aperiodic table with exact clocks, on a cable, as a bus of `bus_clocks`: the short and the long length of each timer
-- are the same, and delays are those of the cable.
--
--   tick      0         wake          sg
--   moment    .......................  0
--
-- A tick is a bit time, and tick 0 comes one synchronization gap before moment 0: so a sender is powered up at the tick of its wake.
-- Senders are told by their places in turn order.
--   d   no sender hears another later by more than this
use Rattle.std.specs.Prelude.{◌≡◌, ℕ, zero, suc, ◌+◌, ◌-◌, ◌&&◌, ◌==◌, Bool, false, nat_le, IsTrue, List, [], ◌∷◌, map, length, Some}
use Rattle.std.specs.Prelude.{if◌then◌else◌}
use Rattle.std.specs.List.{list_any}
use Rattle.bus_strings.specs.Limits.{inner_gap}
use Rattle.bus_strings.specs.Messages.{Entry, bits}
use Rattle.bus_strings.specs.Transmissions.{pulses}
use Rattle.bus_table.specs.declared.mode.Mode.TheVariants.{Aperiodic}
use Rattle.bus_table.specs.Hands.{are_hands}
use Rattle.bus_table.specs.Lengths.{shortest, longest}
use Rattle.bus_table.specs.Tables.{Sender, Table, Hand, sender_numbers}
use Rattle.bus_table.specs.Turns.{turn_order}
use Rattle.bus_table.specs.Valid.{is_valid}
use Rattle.bus_medium.specs.CableLawful.{IsLawfulOnCable}
use Rattle.bus_medium.specs.Delays.{Delays, AreDelays, later}
use Rattle.bus_medium.specs.Timings.{quiet_of, stations_of}
use Rattle.bus_medium.specs.Wakes.{Wakes, AreWakes}
use Rattle.bus_regime.specs.Verdicts.{verdict_of, is_accepted}
use Rattle.bus_schedule.specs.Even.{are_even, messages_of}
use Rattle.bus_clocks.specs.Buses.{Bus}
use Rattle.bus_clocks.specs.Courses.{Course, IsCourse}
use Rattle.bus_clocks.specs.Entries.{Entry as Sending}
use Rattle.bus_clocks.specs.Order.{IsCold, IsInOrder}
use Rattle.bus_reach.specs.Bearing.{bears}

-- ---- places

-- What the sender at a place has, and 0 behind the last.
abbrev pub value_at : (Sender → ℕ) → List Sender → ℕ → ℕ
value_at f [] k = 0
value_at f (a ∷ order) zero = f a
value_at f (a ∷ order) (suc k) = value_at f order k

-- The place of the sender with this number.
abbrev pub place_of : List Sender → ℕ → ℕ
place_of [] number = 0
place_of (a ∷ order) number = if a.number == number then 0 else suc (place_of order number)

-- ---- the bus and the course

-- The bus of a table: inside a message nobody hears more quiet bit times in a row than stand between two wordstrings.
abbrev pub bus_of : Table → ℕ → Bus
bus_of table d = record {
  senders = length (turn_order table);
  delay = d;
  drop = inner_gap + 1;
  tg_short = value_at (λ sender. sender.tg) (turn_order table);
  tg_long = value_at (λ sender. sender.tg) (turn_order table);
  sg_short = λ _. table.sg;
  sg_long = λ _. table.sg;
  ti_short = λ _. table.ti;
  ti_long = λ _. table.ti;
  shortest = value_at shortest (turn_order table);
  longest = value_at longest (turn_order table);
}

-- A transmission in ticks.
abbrev pub sending_of : Table → Entry → Sending
sending_of table x = record { moment = table.sg + x.moment; sender = place_of (turn_order table) x.terminal; length = bits x.message }

-- Whether a transmission in ticks is this one.
abbrev pub is_sending : Table → Sending → Entry → Bool
is_sending table y x = y.moment == table.sg + x.moment && y.sender == place_of (turn_order table) x.terminal

-- The transmission as the sender at a place hears it. A place behind the last sender is no terminal of the table: it hears all at once.
abbrev pub heard_at : Table → Delays → ℕ → Entry → Entry
heard_at table delay k x = later (value_at (λ sender. delay x sender.number) (turn_order table) k) x

-- Whether the sender at a place hears a pulse of a transmission at a tick.
abbrev pub sounds : Table → Delays → ℕ → ℕ → Entry → Bool
sounds table delay k u x = nat_le table.sg u && pulses (u - table.sg) (heard_at table delay k x)

-- What happens on that bus where these are the transmissions: each timer takes its one length, each hand has so many messages, and nothing
-- else is heard.
abbrev pub course_of : Table → List Hand → Delays → Wakes → ℕ → List Entry → Course
course_of table hands delay wake horizon list = record {
  up = value_at (λ sender. wake sender.number) (turn_order table);
  due = λ _. 0;
  tg = λ k _. value_at (λ sender. sender.tg) (turn_order table) k;
  sg = λ _ _. table.sg;
  ti = λ _ _. table.ti;
  messages = λ k. Some (value_at (λ sender. length (messages_of hands sender.number)) (turn_order table) k);
  noise = λ _ _. false;
  hears = λ y k u. list_any (λ x. is_sending table y x && sounds table delay k u x) list;
  horizon = table.sg + horizon;
  list = map (sending_of table) list;
}

-- ---- laws

-- This may happen on the bus, and begins cold.
pub record IsColdCourse (bus : Bus) (c : Course) : Type 0 where
  pub course : IsCourse bus c
  pub cold : IsCold bus c

-- What the senders of an aperiodic table do on a cable, accepted or not, is a course of its bus that begins cold: whatever their hands
-- have, and whenever they are powered up.
abbrev pub LawfulIsCourse : Type 0
LawfulIsCourse =
    (table : Table) (hands : List Hand) (delay : Delays) (wake : Wakes) (d horizon : ℕ) (list : List Entry) → IsTrue (is_valid table)
    → table.mode ≡ Aperiodic → IsTrue (are_hands table.senders hands) → AreDelays d (sender_numbers table) delay
    → IsLawfulOnCable (quiet_of table) delay wake (stations_of table hands) horizon list
    → IsColdCourse (bus_of table d) (course_of table hands delay wake horizon list)

-- By how much later one sender hears another at most: a sender alone hears itself at once.
abbrev pub delay_among : Table → ℕ → ℕ
delay_among table d = if length table.senders == 1 then 0 else d

-- So where the verdict accepts the table, and it bears the delays, that course is in order up to each horizon, with as many messages for
-- each sender, and power-ups that are apart by no more than the delays.
abbrev pub LawfulIsInOrder : Type 0
LawfulIsInOrder =
    (table : Table) (hands : List Hand) (delay : Delays) (wake : Wakes) (d horizon : ℕ) (list : List Entry) → IsTrue (is_valid table)
    → table.mode ≡ Aperiodic → IsTrue (is_accepted (verdict_of table)) → IsTrue (are_even table hands)
    → AreDelays d (sender_numbers table) delay → AreWakes d table.senders wake → IsTrue (bears table d)
    → IsLawfulOnCable (quiet_of table) delay wake (stations_of table hands) horizon list
    → IsInOrder (bus_of table (delay_among table d)) (course_of table hands delay wake horizon list)
