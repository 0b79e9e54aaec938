-- How far the walk over a trace has come, and what is kept then.
--   i   how many transmissions of the list are behind
use Rattle.std.specs.Prelude.{◌≡◌, ◌≢◌, ℕ, ◌+◌, ◌*◌, ◌^◌, ◌<◌, ◌≤◌, min, max, true, false, not, ◌==◌, List, filter, length, take, drop}
use Rattle.std.specs.Prelude.{slice_get, slice_range}
use Rattle.std.specs.Prelude.{Option, Some, None, if◌then◌else◌}
use Rattle.std.specs.List.{reduce}
use Rattle.bus_strings.specs.Marking.{greatest_end}
use Rattle.bus_strings.specs.Members.{In}
use Rattle.bus_strings.specs.Messages.{Entry}
use Rattle.bus_strings.specs.Transmissions.{IsAscending}
use Rattle.bus_table.specs.Tables.{Sender, Table}
use Rattle.bus_bounds.specs.Bounds.{Bounds}
use Rattle.bus_recording.specs.Seen.{Seen}
use Rattle.bus_findings.specs.declared.heard.Ends.{Ends}
use Rattle.bus_findings.specs.declared.heard.Heard.{Heard}
use Rattle.bus_findings.specs.declared.judgement.Judgement.{Judgement}
use Rattle.bus_findings.specs.declared.totals.Totals.{Totals}
use Rattle.bus_findings.specs.declared.watch.Last.{Last}
use Rattle.bus_findings.specs.declared.watch.Watch.{Watch}
use Rattle.bus_findings.specs.Amounts.{greatest}
use Rattle.bus_findings.specs.Recorded.{recorded, reach}
use Rattle.bus_findings.specs.inside.Calm.{IsQuiet}
use Rattle.bus_findings.specs.Terminals.{own, apart, faults_among, early_count, once, is_late}

-- The greatest soonest end of those of a terminal, and of those of others.
abbrev pub own_end : List Seen → ℕ → ℕ
own_end recording number = greatest (λ r. r.soonest) (filter (λ r. r.sender == number) recording)

abbrev pub others_end : List Seen → ℕ → ℕ
others_end recording number = greatest (λ r. r.soonest) (filter (λ r. not (r.sender == number)) recording)

-- The greatest moment at which a terminal may hear one of these end.
abbrev pub latest_end : ℕ → List Seen → ℕ
latest_end rest recording = greatest (λ r. r.latest + rest) recording

-- The greatest end that isn't of this terminal.
abbrev pub of_others : Ends → ℕ → ℕ
of_others ends number = if number == ends.terminal then ends.second else ends.first

-- The greatest ends are those of these transmissions.
pub record AreEnds (recording : List Seen) (ends : Ends) : Type 0 where
  pub others : (number : ℕ) → of_others ends number ≡ others_end recording number
  pub order : ends.second ≤ ends.first
  pub bound : ends.first < 2 ^ 41

-- What is known of the first i transmissions.
pub record IsHeard (bounds : Bounds) (list : List Entry) (i : ℕ) (heard : Heard) : Type 0 where
  pub end : heard.end ≡ greatest_end (take i list)
  pub end_bound : heard.end < 2 ^ 41
  pub soonest : AreEnds (recorded bounds (take i list)) heard.soonest
  pub latest : heard.latest ≡ latest_end (reach bounds) (recorded bounds (take i list))
  pub latest_bound : heard.latest < 2 ^ 42
  pub quiet : IsQuiet bounds list i heard.quiet

-- How many have begun more than the reach before a moment: these, at least.
pub record HasBegun (bounds : Bounds) (list : List Entry) (moment : ℕ) (heard : Heard) : Type 0 where
  pub within : heard.begun ≤ length list
  pub end : heard.begun_end ≡ greatest (λ r. r.soonest) (recorded bounds (take heard.begun list))
  pub bound : heard.begun_end < 2 ^ 41
  pub begun : (x : Entry) → In x (take heard.begun list) → x.moment + reach bounds < moment

-- And no others.
pub record HasReached (bounds : Bounds) (list : List Entry) (moment : ℕ) (heard : Heard) : Type 0 where
  pub begun : HasBegun bounds list moment heard
  pub all : (x : Entry) → In x (drop heard.begun list) → moment ≤ x.moment + reach bounds

-- The last start of a terminal stands at this place.
pub record IsLastAt (bounds : Bounds) (list : List Entry) (number : ℕ) (last : Last) : Type 0 where
  pub start : Entry
  pub there : slice_get list last.place ≡ Some start
  pub mine : start.terminal ≡ number
  pub others : last.others ≡ others_end (recorded bounds (take last.place list)) number
  pub others_bound : last.others < 2 ^ 41
  pub latest : last.latest ≡ latest_end (reach bounds) (recorded bounds (take last.place list))
  pub latest_bound : last.latest < 2 ^ 42

-- Between that place and place i there is no other of that terminal.
pub record IsLastTo (bounds : Bounds) (list : List Entry) (number i : ℕ) (last : Last) : Type 0 where
  pub at : IsLastAt bounds list number last
  pub within : last.place < i
  pub none : (x : Entry) → In x (slice_range list (last.place + 1) i) → x.terminal ≢ number

-- The last start of a terminal among the first i transmissions, if there is one.
abbrev pub IsLast : Bounds → List Entry → ℕ → ℕ → Option Last → Type 0
IsLast bounds list number i None = (x : Entry) → In x (take i list) → x.terminal ≢ number
IsLast bounds list number i (Some last) = IsLastTo bounds list number i last

-- What is kept of a sender behind the first i transmissions.
pub record IsWatch (bounds : Bounds) (table : Table) (list : List Entry) (number i : ℕ) (watch : Watch) : Type 0 where
  pub last : IsLast bounds list number i watch.last
  pub own_end : watch.own_end ≡ own_end (recorded bounds (take i list)) number
  pub own_bound : watch.own_end < 2 ^ 41
  pub starts : watch.starts ≡ length (own (take i list) number)
  pub faults : watch.faults ≡ faults_among bounds table list (own (take i list) number)
  pub counted : watch.starts ≤ i
  pub few : watch.faults ≤ 6 * watch.starts
  pub least : watch.least ≡ reduce min (apart (own (take i list) number))
  pub most : watch.most ≡ reduce max (apart (own (take i list) number))

-- What is kept of all senders.
pub record AreWatched (bounds : Bounds) (table : Table) (list : List Entry) (i : ℕ) (watches : List Watch) : Type 0 where
  pub enough : length table.senders ≤ length watches
  pub each : (k : ℕ) (s : Sender) (w : Watch) → slice_get table.senders k ≡ Some s → slice_get watches k ≡ Some w
      → IsWatch bounds table list s.number i w

-- A stretch of the list from behind one place up to another, before which all begins up to a moment, and behind which from there on.
pub record IsStretch (list : List Entry) (number place to moment : ℕ) : Type 0 where
  pub order : IsAscending list
  pub within : place < to
  pub short : to ≤ length list
  pub none : (x : Entry) → In x (slice_range list (place + 1) to) → x.terminal ≢ number
  pub before : (x : Entry) → In x (take to list) → x.moment ≤ moment
  pub behind : (x : Entry) → In x (drop to list) → moment ≤ x.moment

-- ---- totals

abbrev pub no_totals : Totals
no_totals = record { early = 0; late = 0; passed = 0; strangers = 0; misfits = 0 }

-- With what is found at one more transmission.
abbrev pub with_judgement : Totals → Judgement → Totals
with_judgement totals judgement = record {
  early = totals.early + early_count judgement;
  late = totals.late + once (is_late false judgement.late);
  passed = totals.passed + once (is_late true judgement.late);
  strangers = totals.strangers + once judgement.stranger;
  misfits = totals.misfits + once judgement.misfit;
}

-- The numbers are no greater than this one.
pub record AreFew (totals : Totals) (most : ℕ) : Type 0 where
  pub early : totals.early ≤ most
  pub late : totals.late ≤ most
  pub passed : totals.passed ≤ most
  pub strangers : totals.strangers ≤ most
  pub misfits : totals.misfits ≤ most
