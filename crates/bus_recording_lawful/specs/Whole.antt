-- What is wanting, where no sender has a finding, to what is lawful: how each begins, and what it holds at the end. Of these a recording
-- that doesn't know its past and the hands tells nothing. Here it is recorded from the settled start on, so all quiet counts.
use Rattle.std.specs.Prelude.{◌≡◌, ℕ, ◌+◌, ◌<◌, ◌≤◌, ◌↔◌, IsTrue, List, length}
use Rattle.bus_strings.specs.Limits.{inner_gap}
use Rattle.bus_strings.specs.Members.{In}
use Rattle.bus_strings.specs.Messages.{Entry}
use Rattle.bus_strings.specs.Transmissions.{IsAscending}
use Rattle.bus_table.specs.Hands.{are_hands}
use Rattle.bus_table.specs.Tables.{Hand, Table}
use Rattle.bus_table.specs.Valid.{is_valid}
use Rattle.bus_trace.specs.Traces.{IsTrace, Recording}
use Rattle.bus_medium.specs.Lawful.{HaveOwnNumbers, IsLawful, IsNext, Station}
use Rattle.bus_medium.specs.Past.{own}
use Rattle.bus_medium.specs.Timings.{quiet_of, stations_of}
use Rattle.bus_audit.specs.Breaches.{HasNoBreach}
use Rattle.bus_audit.specs.Observed.{StatesHands}
use Rattle.bus_recording.specs.Findings.{IsClean}
use Rattle.bus_recording.specs.Monitors.{monitor_of}
use Rattle.bus_recording_lawful.specs.Lawful.{MayAt, bounds_of, recorded}

-- At its first start in the list a sender may start, and it may at no moment before.
abbrev pub BeginsInTime : ℕ → List Entry → Station → Type 0
BeginsInTime quiet list sender =
    (z : Entry) → In z list → z.terminal ≡ sender.number → ((y : Entry) → In y list → y.terminal ≡ sender.number → z.moment ≤ y.moment)
    → MayAt sender.timing quiet list sender.number z.moment
    × ((t : ℕ) → t < z.moment → MayAt sender.timing quiet list sender.number t → ⊥)

-- Behind all its starts in the list a sender that has messages left may start at no moment below the horizon.
abbrev pub EndsInTime : ℕ → ℕ → List Entry → Station → Type 0
EndsInTime quiet horizon list sender =
    (t : ℕ) → t < horizon → ((y : Entry) → In y list → y.terminal ≡ sender.number → y.moment < t)
    → length (own list sender.number t) < length sender.hand → MayAt sender.timing quiet list sender.number t → ⊥

-- The sender has no finding in what is recorded of the list, by its own timers and without a reach; and it begins and ends in time.
pub record IsToldLawful (quiet horizon : ℕ) (list : List Entry) (sender : Station) : Type 0 where
  pub clean : IsClean (bounds_of sender.timing) (monitor_of 0 (inner_gap + 1) 0) (recorded 0 list) sender.number
  pub begins : BeginsInTime quiet list sender
  pub ends : EndsInTime quiet horizon list sender

-- Of transmissions below the horizon, each with the next message of its sender's hand: they are lawful exactly where each sender has no
-- finding, and begins and ends in time. So this is all that is wanting.
abbrev pub LawfulIsTold : Type 0
LawfulIsTold =
    (quiet : ℕ) (stations : List Station) (horizon : ℕ) (list : List Entry) → IsAscending list → HaveOwnNumbers stations
    → ((x : Entry) → In x list → (x.moment < horizon) × IsNext stations list x) → ((x : Entry) → In x list → 0 < length x.message)
    → ((sender : Station) → In sender stations → (inner_gap < sender.timing.sg) × (inner_gap < sender.timing.tg))
    → IsLawful quiet stations horizon list ↔ ((sender : Station) → In sender stations → IsToldLawful quiet horizon list sender)

-- With these hands, one for each sender of the table, a trace is told to be lawful: each hand fits and has as many messages as the HOLD
-- lines say; each transmission has the next message of its sender's hand; and each sender has no finding, and begins and ends in time.
pub record IsToldWith (table : Table) (trace : Recording) (hands : List Hand) : Type 0 where
  pub fitting : IsTrue (are_hands table.senders hands)
  pub stated : StatesHands hands trace
  pub next : (x : Entry) → In x trace.list → IsNext (stations_of table hands) trace.list x
  pub told : (sender : Station) → In sender (stations_of table hands) → IsToldLawful (quiet_of table) trace.horizon trace.list sender

-- So an audit finds no breach in a trace exactly where there are hands with which it is told to be lawful.
abbrev pub AuditIsTold : Type 0
AuditIsTold =
    (table : Table) (trace : Recording) → IsTrue (is_valid table) → IsTrace trace
    → HasNoBreach table trace ↔ ((hands : List Hand) × IsToldWith table trace hands)
