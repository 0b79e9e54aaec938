-- What is lawful, as a monitor records it that hears all at once. Here a tick is a bit time.
--   start    the moment from which on it records
--   settled  the moment from which on nothing is heard any more of what began before that
use Rattle.std.specs.Prelude.{◌≡◌, ℕ, ◌+◌, ◌<◌, ◌≤◌, ◌↔◌, nat_le, cond, IsTrue, List, [], ◌∷◌, length}
use Rattle.bus_timers.specs.declared.timing.Timing.{Timing}
use Rattle.bus_timers.specs.MayStart.{MayStart}
use Rattle.bus_strings.specs.Limits.{inner_gap}
use Rattle.bus_strings.specs.Members.{In}
use Rattle.bus_strings.specs.Messages.{Entry, bits}
use Rattle.bus_strings.specs.Transmissions.{IsAscending, end_of}
use Rattle.bus_table.specs.Hands.{are_hands}
use Rattle.bus_table.specs.Tables.{Sender, Table, Hand}
use Rattle.bus_table.specs.Valid.{is_valid}
use Rattle.bus_trace.specs.Traces.{Recording, IsTrace}
use Rattle.bus_medium.specs.Lawful.{Station, IsLawful}
use Rattle.bus_medium.specs.Past.{last_place, own, past}
use Rattle.bus_medium.specs.Timings.{quiet_of, stations_of}
use Rattle.bus_audit.specs.Breaches.{HasNoBreach}
use Rattle.bus_recording.specs.Seen.{Bounds, Seen}
use Rattle.bus_recording.specs.Exact.{exactly}
use Rattle.bus_recording.specs.Findings.{HasNoFinding, IsClean}
use Rattle.bus_recording.specs.Monitors.{monitor_of}

-- A transmission as it is recorded: it begins where it begins, and lasts as long as its bits.
abbrev pub seen : Entry → Seen
seen x = record {
  moment = x.moment;
  sender = x.terminal;
  soonest = x.moment + bits x.message;
  latest = x.moment + bits x.message;
}

-- What is recorded of these from moment `start` on.
abbrev pub recorded : ℕ → List Entry → List Seen
recorded start [] = []
recorded start (x ∷ list) = cond (nat_le start x.moment) (seen x ∷ recorded start list) (recorded start list)

-- What began before the recording lasts no longer than `longest`, and so is over when the bus is settled.
pub record IsOver (start longest settled : ℕ) (list : List Entry) : Type 0 where
  pub most : (x : Entry) → In x list → x.moment < start → bits x.message ≤ longest
  pub over : start + longest ≤ settled + 1

-- The bounds of timers that take exactly their lengths.
abbrev pub bounds_of : Timing → Bounds
bounds_of timing = exactly (record { ti = timing.ti; sg = timing.sg; tg = timing.tg })

-- A sender of a lawful list has no finding in what is recorded of it, by its own timers and without a reach, where its gaps are longer than
-- the quiet inside a message.
abbrev pub LawfulIsClean : Type 0
LawfulIsClean =
    (quiet : ℕ) (stations : List Station) (station : Station) (horizon start longest settled : ℕ) (list : List Entry)
    → IsLawful quiet stations horizon list → In station stations → ((x : Entry) → In x list → 0 < length x.message)
    → inner_gap < station.timing.sg → inner_gap < station.timing.tg → IsOver start longest settled list
    → IsClean (bounds_of station.timing) (monitor_of 0 (inner_gap + 1) settled) (recorded start list) station.number

-- The bounds of a sender of a table, whose timers take exactly their lengths.
abbrev pub table_bounds : Table → Sender → Bounds
table_bounds table sender = exactly (record { ti = table.ti; sg = table.sg; tg = sender.tg })

-- So no sender of a valid table has a finding in what the senders do, in both modes, whatever messages they have.
abbrev pub TableIsClean : Type 0
TableIsClean =
    (table : Table) (hands : List Hand) (sender : Sender) (horizon start longest settled : ℕ) (list : List Entry) → IsTrue (is_valid table)
    → IsTrue (are_hands table.senders hands) → IsLawful (quiet_of table) (stations_of table hands) horizon list
    → In sender table.senders → ((x : Entry) → In x list → 0 < length x.message) → IsOver start longest settled list
    → IsClean (table_bounds table sender) (monitor_of 0 (inner_gap + 1) settled) (recorded start list) sender.number

-- And none has one in a trace in which an audit finds no breach, recorded from any moment on.
abbrev pub AuditedIsClean : Type 0
AuditedIsClean =
    (table : Table) (trace : Recording) (sender : Sender) (start longest settled : ℕ) → IsTrue (is_valid table) → IsTrace trace
    → HasNoBreach table trace → In sender table.senders → IsOver start longest settled trace.list
    → IsClean (table_bounds table sender) (monitor_of 0 (inner_gap + 1) settled) (recorded start trace.list) sender.number

-- Two transmissions of terminal n, z the next behind x; none of the list is empty, and its own don't overlap.
pub record AreOwnInRow (list : List Entry) (n : ℕ) (x z : Entry) : Type 0 where
  pub ordered : IsAscending list
  pub some : (y : Entry) → In y list → 0 < length y.message
  pub apart : (y w : Entry) → In y list → In w list → y.terminal ≡ n → w.terminal ≡ n → y.moment < w.moment → end_of y ≤ w.moment
  pub there : In x list
  pub here : In z list
  pub mine : x.terminal ≡ n
  pub own : z.terminal ≡ n
  pub behind : x.moment < z.moment
  pub next : (y : Entry) → In y list → y.terminal ≡ n → y.moment < z.moment → y.moment ≤ x.moment

-- At moment t, behind the past that the list makes, terminal n may start.
abbrev pub MayAt : Timing → ℕ → List Entry → ℕ → ℕ → Type 0
MayAt timing quiet list n t = MayStart timing (past quiet list t) (last_place quiet (own list n t))

-- Of any list, lawful or not, in which the terminal's own transmissions don't overlap: behind another of its own a start has no finding
-- exactly where the terminal may start there, and nowhere between the two. So of each start but the first a recording without a reach
-- tells, by its timers, what an audit does.
abbrev pub CleanStartIsAllowed : Type 0
CleanStartIsAllowed =
    (timing : Timing) (quiet : ℕ) (list : List Entry) (n : ℕ) (x z : Entry) → AreOwnInRow list n x z → inner_gap < timing.sg
    → inner_gap < timing.tg
    → HasNoFinding (bounds_of timing) (monitor_of 0 (inner_gap + 1) 0) (recorded 0 list) (seen x) (seen z)
    ↔ (MayAt timing quiet list n z.moment × ((t : ℕ) → x.moment < t → t < z.moment → MayAt timing quiet list n t → ⊥))
