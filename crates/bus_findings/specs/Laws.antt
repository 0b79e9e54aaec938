-- What the findings are in the words of bus_recording. Its own laws say what follows: whoever keeps its bounds has none of these
-- findings, and the amounts are true.
use Rattle.std.specs.Prelude.{◌≡◌, ℕ, ◌+◌, ◌-◌, ◌<◌, ◌≤◌, true, false, List, Option, Some, None}
use Rattle.std.specs.Option.{option_map_or}
use Rattle.bus_recording.specs.Seen.{Seen, IsIn, Monitor, Bounds as TimerBounds}
use Rattle.bus_recording.specs.Findings.{IsEarlyByInterval, IsEarlyByGap, IsEarlyBySync, IsLate, IsOverForCertain, IsClean}
use Rattle.bus_strings.specs.Members.{In}
use Rattle.bus_strings.specs.Messages.{Entry}
use Rattle.bus_table.specs.Fits.{fits, sender_of}
use Rattle.bus_table.specs.Tables.{Sender, Table}
use Rattle.bus_trace.specs.Traces.{Recording, IsTrace}
use Rattle.bus_bounds.specs.Bounds.{Bounds}
use Rattle.bus_clocks.specs.Courses.{Course}
use Rattle.bus_clocks.specs.Entries.{Entry as Transmission}
use Rattle.bus_recording.specs.Just.{AreWithin}
use Rattle.bus_recording.specs.Keeping.{KeepsBounds}
use Rattle.bus_recording.specs.Recordings.{IsRecording}
use Rattle.bus_recording.specs.Walk.{IsElapsed}
use Rattle.bus_findings.specs.declared.judgement.Due.{Due}
use Rattle.bus_findings.specs.declared.judgement.Judgement.{Judgement}
use Rattle.bus_findings.specs.declared.judgement.Late.{Late}
use Rattle.bus_findings.specs.declared.judgement.Timer.{Timer}
use Rattle.bus_findings.specs.declared.judgement.Timer.TheVariants.{Interval, SyncGap, TerminalGap}
use Rattle.bus_findings.specs.Amounts.{IsAmount}
use Rattle.bus_findings.specs.Lacks.{interval_lack, gap_lack, sync_lack}
use Rattle.bus_findings.specs.Dues.{due_of}
use Rattle.bus_findings.specs.Files.{KeepsInFile, IsInCourse}
use Rattle.bus_findings.specs.Judging.{begun_within, judgement_of, judgements, last_start}
use Rattle.bus_findings.specs.Recorded.{seen, recorded, monitor_of, timers_of}
use Rattle.bus_findings.specs.Silences.{silence_of}
use Rattle.bus_findings.specs.Terminals.{fault_sum, faults_among, has_fault}

-- What lacks is the amount by which a start is too early: where nothing lacks, it isn't.
abbrev pub IntervalLackIsAmount : Type 0
IntervalLackIsAmount = (timers : TimerBounds) (o y : Seen) → IsAmount (λ n. IsEarlyByInterval timers n o y) (interval_lack timers o y)

abbrev pub GapLackIsAmount : Type 0
GapLackIsAmount =
    (timers : TimerBounds) (monitor : Monitor) (recording : List Seen) (y : Seen)
    → IsAmount (λ n. IsEarlyByGap timers monitor n recording y) (gap_lack timers monitor recording y)

abbrev pub SyncLackIsAmount : Type 0
SyncLackIsAmount =
    (timers : TimerBounds) (monitor : Monitor) (recording : List Seen) (o y : Seen) → 0 < monitor.drop
    → IsAmount (λ n. IsEarlyBySync timers monitor n recording o y) (sync_lack timers monitor recording o y)

-- When a terminal is told to be due, all its timers were over for certain, and at no moment before.
pub record IsFirstOver (timers : TimerBounds) (monitor : Monitor) (recording : List Seen) (o : Seen) (until t : ℕ) : Type 0 where
  pub before : t < until
  pub over : IsOverForCertain timers monitor recording o t
  pub first : (u : ℕ) → IsOverForCertain timers monitor recording o u → t ≤ u

abbrev pub DueIsFirst : Type 0
DueIsFirst =
    (timers : TimerBounds) (monitor : Monitor) (recording : List Seen) (o : Seen) (until : ℕ) (due : Due)
    → due_of timers monitor recording o until ≡ Some due → IsFirstOver timers monitor recording o until due.moment

-- The synchronization gap elapsed at this moment for certain, and at no moment before.
pub record IsFirstElapsed (timers : TimerBounds) (monitor : Monitor) (recording : List Seen) (o : Seen) (e : ℕ) : Type 0 where
  pub elapsed : IsElapsed timers monitor recording o e
  pub first : (u : ℕ) → IsElapsed timers monitor recording o u → e ≤ u

-- Which timer was over last at moment t, where the synchronization gap elapsed at moment e: the interval, where it ended then; else that
-- gap, where the terminal gap stood at once behind it; else a terminal gap that began anew.
abbrev pub IsLastTimer : TimerBounds → Seen → ℕ → ℕ → Timer → Type 0
IsLastTimer timers o e t Interval = t ≡ o.moment + timers.long.ti
IsLastTimer timers o e t SyncGap = (o.moment + timers.long.ti < t) × (t ≡ e + timers.long.tg)
IsLastTimer timers o e t TerminalGap = (o.moment + timers.long.ti < t) × (e + timers.long.tg < t)

-- The terminal is due since a moment by a timer: all its timers were over for certain first then, and this one was over last.
pub record IsDueSince (timers : TimerBounds) (monitor : Monitor) (recording : List Seen) (o : Seen) (until moment : ℕ) (timer : Timer)
    : Type 0 where
  pub over : IsFirstOver timers monitor recording o until moment
  pub elapsed : ℕ
  pub first : IsFirstElapsed timers monitor recording o elapsed
  pub last : IsLastTimer timers o elapsed moment timer

-- So it is where it is told to be due.
abbrev pub DueIsTold : Type 0
DueIsTold =
    (timers : TimerBounds) (monitor : Monitor) (recording : List Seen) (o : Seen) (until : ℕ) (due : Due)
    → due_of timers monitor recording o until ≡ Some due → IsDueSince timers monitor recording o until due.moment due.timer

-- Where it isn't told to be due, they never were.
abbrev pub NotDueIsNever : Type 0
NotDueIsNever =
    (timers : TimerBounds) (monitor : Monitor) (recording : List Seen) (o : Seen) (until u : ℕ)
    → due_of timers monitor recording o until ≡ None → u < until → IsOverForCertain timers monitor recording o u → ⊥

-- By how much a start is late that was due.
abbrev pub lateness : Option Due → Seen → ℕ
lateness due y = option_map_or (λ d. y.moment - d.moment) due 0

-- That is the amount by which it is late.
abbrev pub LatenessIsAmount : Type 0
LatenessIsAmount =
    (timers : TimerBounds) (monitor : Monitor) (recording : List Seen) (o y : Seen)
    → IsAmount (λ n. IsLate timers monitor n recording o y) (lateness (due_of timers monitor recording o y.moment) y)

-- ---- of a transmission

-- It is told no fault by a timer.
pub record IsUnblamed (found : Judgement) : Type 0 where
  pub interval : found.interval ≡ 0
  pub sync_gap : found.sync_gap ≡ 0
  pub terminal_gap : found.terminal_gap ≡ 0
  pub late : found.late ≡ None

-- A transmission of a sender of the table.
pub record IsOfSender (table : Table) (trace : Recording) (sender : Sender) (x : Entry) : Type 0 where
  pub there : In x trace.list
  pub sender_is : sender_of table.senders x.terminal ≡ Some sender

-- A sender keeps bounds, whatever the others do, and hears the recorded transmissions as the monitor recorded them: with its clock set
-- ahead, its own starts are those of the recording, up to the sway, and it hears each other transmission no earlier than it is
-- recorded, and up to twice the delay later.
pub record Keeps (bounds : Bounds) (table : Table) (trace : Recording) (sender : Sender) : Type 0 where
  pub course : Course
  pub from : ℕ
  pub ahead : ℕ
  pub sway : ℕ
  pub noted : Transmission → Seen
  pub kept : TimerBounds
  pub keeps : KeepsBounds course kept sender.number from
  pub within : AreWithin sway kept (timers_of bounds table sender)
  pub recording : IsRecording course (monitor_of bounds table) sender.number from ahead sway noted (recorded bounds trace.list)

-- No false alarm: a sender that keeps its bounds has no fault by a timer.
abbrev pub KeepersAreUnblamed : Type 0
KeepersAreUnblamed =
    (bounds : Bounds) (table : Table) (trace : Recording) (sender : Sender) (x : Entry) → IsTrace trace → Keeps bounds table trace sender
    → IsOfSender table trace sender x → IsUnblamed (judgement_of bounds table trace.list x)

-- A sender that has no finding in the words of bus_recording is told no fault by a timer.
abbrev pub CleanIsUnblamed : Type 0
CleanIsUnblamed =
    (bounds : Bounds) (table : Table) (trace : Recording) (sender : Sender) (x : Entry) → IsTrace trace
    → IsClean (timers_of bounds table sender) (monitor_of bounds table) (recorded bounds trace.list) sender.number
    → IsOfSender table trace sender x → IsUnblamed (judgement_of bounds table trace.list x)

-- And one that is told none, at none of its transmissions, has no finding.
abbrev pub UnblamedIsClean : Type 0
UnblamedIsClean =
    (bounds : Bounds) (table : Table) (trace : Recording) (sender : Sender) → IsTrace trace
    → sender_of table.senders sender.number ≡ Some sender
    → ((x : Entry) → IsOfSender table trace sender x → IsUnblamed (judgement_of bounds table trace.list x))
    → IsClean (timers_of bounds table sender) (monitor_of bounds table) (recorded bounds trace.list) sender.number

-- No false alarm of a real bus: where the trace is the file of a monitor, a sender that keeps its bounds has no fault by a timer.
abbrev pub FilesAreUnblamed : Type 0
FilesAreUnblamed =
    (bounds : Bounds) (table : Table) (trace : Recording) (sender : Sender) (x : Entry) → IsTrace trace
    → KeepsInFile bounds table trace sender → IsOfSender table trace sender x → IsUnblamed (judgement_of bounds table trace.list x)

-- Nor has a sender of a bus within bounds, in any course of it, in both modes.
abbrev pub CourseFilesAreUnblamed : Type 0
CourseFilesAreUnblamed =
    (bounds : Bounds) (table : Table) (trace : Recording) (sender : Sender) (x : Entry) → IsTrace trace
    → IsInCourse bounds table trace sender → IsOfSender table trace sender x → IsUnblamed (judgement_of bounds table trace.list x)

-- The amounts that are told of a start behind another of the same sender are those of bus_recording.
pub record AreAmounts (timers : TimerBounds) (monitor : Monitor) (recording : List Seen) (o y : Seen) (found : Judgement) : Type 0 where
  pub interval : IsAmount (λ n. IsEarlyByInterval timers n o y) found.interval
  pub sync_gap : IsAmount (λ n. IsEarlyBySync timers monitor n recording o y) found.sync_gap
  pub terminal_gap : IsAmount (λ n. IsEarlyByGap timers monitor n recording y) found.terminal_gap
  pub late : IsAmount (λ n. IsLate timers monitor n recording o y) (option_map_or (λ late. late.amount) found.late 0)

abbrev pub AmountsAreTold : Type 0
AmountsAreTold =
    (bounds : Bounds) (table : Table) (trace : Recording) (sender : Sender) (x : Entry) (o : Seen) → IsOfSender table trace sender x
    → last_start (recorded bounds trace.list) x.terminal x.moment ≡ Some o
    → AreAmounts (timers_of bounds table sender) (monitor_of bounds table) (recorded bounds trace.list) o (seen bounds x)
    (judgement_of bounds table trace.list x)

-- So is the amount of its terminal gap that is told of a start, be it the first of its sender.
abbrev pub GapIsTold : Type 0
GapIsTold =
    (bounds : Bounds) (table : Table) (trace : Recording) (sender : Sender) (x : Entry) → IsOfSender table trace sender x
    → IsAmount (λ n. IsEarlyByGap (timers_of bounds table sender) (monitor_of bounds table) n (recorded bounds trace.list) (seen bounds x))
    (judgement_of bounds table trace.list x).terminal_gap

-- A start y behind o is late since a moment: the terminal was due since then by the timer that is told; and so many bit times passed, and
-- so many transmissions began, as are told.
pub record IsLateSince (timers : TimerBounds) (monitor : Monitor) (recording : List Seen) (o y : Seen) (late : Late) (due : ℕ)
    : Type 0 where
  pub since : IsDueSince timers monitor recording o y.moment due late.timer
  pub amount : due + late.amount ≡ y.moment
  pub passed : late.passed ≡ begun_within recording due y.moment

-- So is each start that is told to be late.
abbrev pub LateIsTold : Type 0
LateIsTold =
    (bounds : Bounds) (table : Table) (trace : Recording) (sender : Sender) (x : Entry) (o : Seen) (late : Late)
    → IsOfSender table trace sender x → last_start (recorded bounds trace.list) x.terminal x.moment ≡ Some o
    → (judgement_of bounds table trace.list x).late ≡ Some late
    → (due : ℕ)
    × IsLateSince (timers_of bounds table sender) (monitor_of bounds table) (recorded bounds trace.list) o (seen bounds x) late due

-- ---- of a sender at the end

-- The last start of a terminal in a recording.
pub record IsLastStart (recording : List Seen) (number : ℕ) (o : Seen) : Type 0 where
  pub there : IsIn o recording
  pub mine : o.sender ≡ number
  pub last : (r : Seen) → IsIn r recording → r.sender ≡ number → r.moment ≤ o.moment

-- A sender that is told to be silent was due behind its last start, since the moment and by the timer that are told.
abbrev pub SilentIsDue : Type 0
SilentIsDue =
    (bounds : Bounds) (table : Table) (trace : Recording) (sender : Sender) (due : Due) → IsTrace trace
    → silence_of bounds table trace sender ≡ Some due
    → (o : Seen) × IsLastStart (recorded bounds trace.list) sender.number o
    × IsDueSince (timers_of bounds table sender) (monitor_of bounds table) (recorded bounds trace.list) o trace.horizon due.moment due.timer

-- And one that isn't told to be silent was never due behind its last start, before the horizon.
abbrev pub NotSilentIsNotDue : Type 0
NotSilentIsNotDue =
    (bounds : Bounds) (table : Table) (trace : Recording) (sender : Sender) (o : Seen) (u : ℕ) → IsTrace trace
    → silence_of bounds table trace sender ≡ None → IsLastStart (recorded bounds trace.list) sender.number o → u < trace.horizon
    → IsOverForCertain (timers_of bounds table sender) (monitor_of bounds table) (recorded bounds trace.list) o u → ⊥

-- ---- of a whole trace

-- A transmission is of some sender of the table, and its message fits this one.
pub record IsOfTable (table : Table) (x : Entry) : Type 0 where
  pub sender : Sender
  pub sender_is : sender_of table.senders x.terminal ≡ Some sender
  pub fitting : fits sender x.message ≡ true

-- Each transmission is.
abbrev pub AreOfTable : Table → Recording → Type 0
AreOfTable table trace = (x : Entry) → In x trace.list → IsOfTable table x

-- This is so of each sender of the table, by its number.
abbrev pub OfEachSender : Table → (Sender → Type 0) → Type 0
OfEachSender table P = (sender : Sender) → sender_of table.senders sender.number ≡ Some sender → P sender

-- No sender has a finding in the words of bus_recording.
abbrev pub AreClean : Bounds → Table → Recording → Type 0
AreClean bounds table trace =
    OfEachSender table
    (λ sender. IsClean (timers_of bounds table sender) (monitor_of bounds table) (recorded bounds trace.list) sender.number)

-- A good bus has no fault: each transmission is of a sender, and fits, and no sender has a finding.
abbrev pub GoodBusHasNoFault : Type 0
GoodBusHasNoFault =
    (bounds : Bounds) (table : Table) (trace : Recording) → IsTrace trace → AreOfTable table trace → AreClean bounds table trace
    → has_fault bounds table trace ≡ false

-- And only a good bus has none.
abbrev pub NoFaultIsGoodBus : Type 0
NoFaultIsGoodBus =
    (bounds : Bounds) (table : Table) (trace : Recording) → IsTrace trace → has_fault bounds table trace ≡ false
    → AreOfTable table trace × AreClean bounds table trace

-- So the file of a monitor has no fault where each sender keeps its bounds.
abbrev pub GoodFileHasNoFault : Type 0
GoodFileHasNoFault =
    (bounds : Bounds) (table : Table) (trace : Recording) → IsTrace trace → AreOfTable table trace
    → OfEachSender table (KeepsInFile bounds table trace) → has_fault bounds table trace ≡ false

-- And where all are senders of a bus within bounds, in any course of it, in both modes.
abbrev pub CourseFileHasNoFault : Type 0
CourseFileHasNoFault =
    (bounds : Bounds) (table : Table) (trace : Recording) → IsTrace trace → AreOfTable table trace
    → OfEachSender table (IsInCourse bounds table trace) → has_fault bounds table trace ≡ false

-- ---- of the list of all that is found

-- It has as many faults as are told of all transmissions.
abbrev pub FaultSumIsTold : Type 0
FaultSumIsTold =
    (bounds : Bounds) (table : Table) (list : List Entry) → fault_sum (judgements bounds table list) ≡ faults_among bounds table list list
