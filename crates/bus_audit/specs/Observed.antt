-- What is observed of the senders of a valid table, with any hands that fit them, has no breach; and what has no breach is observed of
-- hands that fit them, those that its HOLD lines give.
use Rattle.std.specs.Prelude.{◌≡◌, List, length}
use Rattle.std.specs.Prelude.{IsTrue}
use Rattle.bus_strings.specs.Members.{In}
use Rattle.bus_table.specs.Tables.{Table, Hand}
use Rattle.bus_table.specs.Hands.{are_hands}
use Rattle.bus_table.specs.Valid.{is_valid}
use Rattle.bus_trace.specs.Traces.{Recording, IsTrace}
use Rattle.bus_medium.specs.Lawful.{IsLawful}
use Rattle.bus_medium.specs.Timings.{quiet_of, stations_of}
use Rattle.bus_audit.specs.Breaches.{held, HasNoBreach}
use Rattle.bus_audit.specs.Meaning.{hands_of, IsRight}

-- A trace states these hands: each terminal held as many messages as its hand has.
abbrev pub StatesHands : List Hand → Recording → Type 0
StatesHands hands trace = (hand : Hand) → In hand hands → held trace.holds hand.terminal ≡ length hand.messages

-- What the senders of a valid table do with hands that fit is right.
abbrev pub ObservedIsRight : Type 0
ObservedIsRight = (table : Table) (hands : List Hand) (trace : Recording) → IsTrue (is_valid table)
    → IsTrue (are_hands table.senders hands) → IsTrace trace → StatesHands hands trace
    → IsLawful (quiet_of table) (stations_of table hands) trace.horizon trace.list → IsRight table trace

-- So it has no breach.
abbrev pub ObservedIsClean : Type 0
ObservedIsClean = (table : Table) (hands : List Hand) (trace : Recording) → IsTrue (is_valid table)
    → IsTrue (are_hands table.senders hands) → IsTrace trace → StatesHands hands trace
    → IsLawful (quiet_of table) (stations_of table hands) trace.horizon trace.list → HasNoBreach table trace

-- A trace is of the hands that its HOLD lines give:
--   fitting: they are hands of the table's senders, one for each in order, and each message fits its sender;
--   stated: each has as many messages as the trace says that its terminal held;
--   lawful: the list is the one that the senders make with them before the trace's horizon
pub record IsOfItsHands (table : Table) (trace : Recording) : Type 0 where
  pub fitting : IsTrue (are_hands table.senders (hands_of table trace))
  pub stated : StatesHands (hands_of table trace) trace
  pub lawful : IsLawful (quiet_of table) (stations_of table (hands_of table trace)) trace.horizon trace.list

-- What has no breach is what the senders of a valid table do with these hands.
abbrev pub LawfulIsObserved : Type 0
LawfulIsObserved = (table : Table) (trace : Recording) → IsTrue (is_valid table) → IsTrace trace
    → HasNoBreach table trace → IsOfItsHands table trace
