-- What it means that a trace has no breach: its messages fit, and it is the lawful list for the hands that it states.
--   hand   the messages that a terminal held, in the order in which it sends them
use Rattle.std.specs.Prelude.{◌≡◌, ℕ, ◌-◌, ◌↔◌, true, ◌==◌, List, length, map, take, replicate, filter, ◌++◌, Some, IsTrue}
use Rattle.bus_strings.specs.Members.{In}
use Rattle.bus_strings.specs.Messages.{Message, Entry}
use Rattle.bus_table.specs.declared.mode.Mode.{Mode}
use Rattle.bus_table.specs.Tables.{Sender, Table, Hand}
use Rattle.bus_table.specs.Filling.{filling_message}
use Rattle.bus_table.specs.Fits.{fits, sender_of}
use Rattle.bus_table.specs.Valid.{is_valid}
use Rattle.bus_trace.specs.Traces.{Recording, IsTrace}
use Rattle.bus_medium.specs.Lawful.{IsLawful}
use Rattle.bus_medium.specs.Timings.{quiet_of, stations_of}
use Rattle.bus_audit.specs.declared.answer.AuditAnswer.TheVariants.{Lawful}
use Rattle.bus_audit.specs.Breaches.{held, HasNoBreach, answer_of}

-- The messages of the transmissions of terminal n, in order.
abbrev pub messages_of : List Entry → ℕ → List Message
messages_of list n = map (λ x. x.message) (filter (λ x. x.terminal == n) list)

-- So many messages: the first of these, and behind them as many of another as are wanting.
abbrev pub filled : ℕ → List Message → Message → List Message
filled count messages message = take count messages ++ replicate (count - length messages) message

-- The hand of a sender: as many messages as it held, those that it sent in order, and filling messages for those that it didn't send.
abbrev pub hand_of : Mode → Recording → Sender → Hand
hand_of mode trace sender = record {
  terminal = sender.number;
  messages = filled (held trace.holds sender.number) (messages_of trace.list sender.number) (filling_message mode sender);
}

-- The hands that the HOLD lines of a trace give, one for each sender, in the order of the table.
abbrev pub hands_of : Table → Recording → List Hand
hands_of table trace = map (hand_of table.mode trace) table.senders

-- A sender of the table, which the transmission fits.
pub record IsFitting (table : Table) (x : Entry) : Type 0 where
  pub sender : Sender
  pub there : sender_of table.senders x.terminal ≡ Some sender
  pub fit : fits sender x.message ≡ true

-- Each transmission is of a sender and fits it, and the list is the lawful one for the hands that the trace states and its horizon.
pub record IsRight (table : Table) (trace : Recording) : Type 0 where
  pub fitting : (x : Entry) → In x trace.list → IsFitting table x
  pub lawful : IsLawful (quiet_of table) (stations_of table (hands_of table trace)) trace.horizon trace.list

-- A trace has no breach exactly where it is right.
abbrev pub NoBreachIsRight : Type 0
NoBreachIsRight = (table : Table) (trace : Recording) → IsTrue (is_valid table) → IsTrace trace
    → HasNoBreach table trace ↔ IsRight table trace

-- So the answer is that it is lawful exactly there.
abbrev pub LawfulIsRight : Type 0
LawfulIsRight = (table : Table) (trace : Recording) → IsTrue (is_valid table) → IsTrace trace
    → ((collided : ℕ) × (answer_of table trace ≡ Lawful collided)) ↔ IsRight table trace
