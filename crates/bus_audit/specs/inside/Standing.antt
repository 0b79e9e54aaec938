-- How far the auditor has come in a trace, and what the watches of the senders stand for then.
use Rattle.std.specs.Prelude.{◌≡◌, ℕ, ◌+◌, ◌^◌, ◌<◌, ◌≤◌, ◌⊎◌, List, length, slice_get, Some}
use Rattle.bus_timers.specs.Timings.{IsSound, due_place}
use Rattle.bus_timers.specs.MayStart.{MayStart}
use Rattle.bus_timers.specs.GapPlace.{GapFrom}
use Rattle.bus_strings.specs.Members.{In}
use Rattle.bus_strings.specs.Messages.{Entry}
use Rattle.bus_strings.specs.Transmissions.{end_of}
use Rattle.bus_table.specs.Tables.{Sender, Table}
use Rattle.bus_trace.specs.Traces.{Recording}
use Rattle.bus_medium.specs.Past.{past, own, last_place}
use Rattle.bus_medium.specs.Lawful.{IsBefore}
use Rattle.bus_medium.specs.Timings.{quiet_of, timing_of}
use Rattle.bus_audit.specs.declared.progress.Progress.{Progress}
use Rattle.bus_audit.specs.declared.watch.Watch.{Watch}
use Rattle.bus_audit.specs.Breaches.{held, IsCleanTo}
use Rattle.bus_audit.specs.inside.Watches.{ready, ready_moment, pair, AreLow, NoneBefore}

-- A pair that isn't before another.
abbrev pub NotBefore : ℕ → ℕ → ℕ → ℕ → Type 0
NotBefore u k t n = (t < u) ⊎ ((u ≡ t) × (n ≤ k))

-- No entry is at a pair from (a, n) on and before (t, m).
abbrev pub NoEntries : List Entry → ℕ → ℕ → ℕ → ℕ → Type 0
NoEntries list a n t m = (x : Entry) → In x list → NotBefore x.moment x.terminal a n → IsBefore x.moment x.terminal t m → ⊥

-- The sender's timers allow a start at moment t.
abbrev pub Allowed : Table → Recording → Sender → ℕ → Type 0
Allowed table trace s t =
    MayStart (timing_of table s) (past (quiet_of table) trace.list t) (last_place (quiet_of table) (own trace.list s.number t))

-- The watch keeps the sender's timers as they are at moment c, where its transmissions before moment cut are its own so far.
pub record Keeps (table : Table) (trace : Recording) (s : Sender) (w : Watch) (c cut : ℕ) : Type 0 where
  pub number : w.number ≡ s.number
  pub timing : w.timing ≡ timing_of table s
  pub sound : IsSound (timing_of table s)
  pub interval : due_place (timing_of table s) (last_place (quiet_of table) (own trace.list s.number cut)) ≡ w.due
  pub from : GapFrom (timing_of table s).sg (past (quiet_of table) trace.list c)
      (last_place (quiet_of table) (own trace.list s.number cut)) w.gap
  pub left : w.left + length (own trace.list s.number cut) ≡ held trace.holds s.number

-- The watch tells whether the timers allow a start at moment u, and how many messages are left then.
pub record Tells (table : Table) (trace : Recording) (s : Sender) (w : Watch) (u : ℕ) : Type 0 where
  pub number : w.number ≡ s.number
  pub ready_may : ready w ≤ quiet_of table + u → Allowed table trace s u
  pub may_ready : Allowed table trace s u → ready w ≤ quiet_of table + u
  pub left : w.left + length (own trace.list s.number u) ≡ held trace.holds s.number

-- A sender with its watch.
pub record At (table : Table) (watches : List Watch) (j : ℕ) (s : Sender) (w : Watch) : Type 0 where
  pub sender : slice_get table.senders j ≡ Some s
  pub watch : slice_get watches j ≡ Some w

-- All is judged up to the pair (a, n), and from there on, up to moment top, the watches tell who may start:
--   late    nobody may before moment c
--   later   nobody with messages left is missed before the pair
pub record Told (table : Table) (trace : Recording) (watches : List Watch) (c a n top : ℕ) : Type 0 where
  pub clean : IsCleanTo table trace a n
  pub same_length : length watches ≡ length table.senders
  pub numbers : (j : ℕ) (s : Sender) (w : Watch) → At table watches j s w → w.number ≡ s.number
  pub tells : (j : ℕ) (s : Sender) (w : Watch) (u : ℕ) → At table watches j s w → NotBefore u s.number a n → u ≤ top
      → Tells table trace s w u
  pub late : (j : ℕ) (s : Sender) (w : Watch) (u : ℕ) → At table watches j s w → NotBefore u s.number a n → u ≤ top
      → ready w ≤ quiet_of table + u → c ≤ u
  pub later : (j : ℕ) (s : Sender) (w : Watch) → At table watches j s w → 0 < w.left
      → NotBefore (ready_moment (quiet_of table) c w) s.number a n

-- At moment t, all is judged for the terminals below n: their watches count the starts at t, and the others do not yet.
pub record Stands (table : Table) (trace : Recording) (watches : List Watch) (t n : ℕ) : Type 0 where
  pub clean : IsCleanTo table trace t n
  pub same_length : length watches ≡ length table.senders
  pub done : (j : ℕ) (s : Sender) (w : Watch) → At table watches j s w → s.number < n → Keeps table trace s w t (t + 1)
  pub ahead : (j : ℕ) (s : Sender) (w : Watch) → At table watches j s w → n ≤ s.number → Keeps table trace s w t t
  pub spoken : (j : ℕ) (s : Sender) (w : Watch) → At table watches j s w → s.number < n → 0 < w.left → quiet_of table + t < ready w

-- No transmission begins at moment t, of the terminals below n.
pub record Calm (list : List Entry) (t e n : ℕ) : Type 0 where
  pub over : e ≤ t
  pub none : (x : Entry) → In x list → x.moment ≡ t → x.terminal < n → ⊥

-- Some do, and the last of them ends at moment e.
pub record Group (list : List Entry) (t e n : ℕ) : Type 0 where
  pub entry : Entry
  pub there : In entry list
  pub moment : entry.moment ≡ t
  pub end : end_of entry ≡ e
  pub all : (x : Entry) → In x list → x.moment ≡ t → x.terminal < n → end_of x ≤ e

-- Those that began before moment t have ended.
pub record Near (list : List Entry) (t e n : ℕ) : Type 0 where
  pub old : (x : Entry) → In x list → x.moment < t → end_of x ≤ t
  pub now : Calm list t e n ⊎ Group list t e n

-- All is judged before the pair (t, m), and its sender's watch tells whether it may start; where the watches stand at moment t they
-- keep the timers.
pub record Arrived (table : Table) (trace : Recording) (watches : List Watch) (c e t m : ℕ) : Type 0 where
  pub clean : IsCleanTo table trace t m
  pub same_length : length watches ≡ length table.senders
  pub tells : (j : ℕ) (s : Sender) (w : Watch) → At table watches j s w → s.number ≡ m → Tells table trace s w t
  pub late : (j : ℕ) (s : Sender) (w : Watch) → At table watches j s w → s.number ≡ m → ready w ≤ quiet_of table + t → c ≤ t
  pub stands : c ≤ t → Stands table trace watches t m
  pub near : c ≤ t → Near trace.list t e m

-- The numbers are far below the end of their type.
pub record AreFar (watches : List Watch) (progress : Progress) : Type 0 where
  pub low : AreLow watches
  pub moment : progress.moment < 2 ^ 41
  pub end : progress.end < 2 ^ 41

-- All is judged up to a pair, from which on no entry is before the pair (t, m).
pub record Judged (table : Table) (trace : Recording) (progress : Progress) (watches : List Watch) (t m : ℕ) : Type 0 where
  pub number : ℕ
  pub stands : Stands table trace watches progress.moment number
  pub near : Near trace.list progress.moment progress.end number
  pub none : NoEntries trace.list progress.moment number t m
  pub upto : NotBefore t m progress.moment number
  pub far : AreFar watches progress

-- The watches tell what comes before the pair (t, m); where nobody is missed before it, that pair is reached.
pub record Closed (table : Table) (trace : Recording) (progress : Progress) (watches : List Watch) (t m : ℕ) : Type 0 where
  pub moment : ℕ
  pub number : ℕ
  pub told : Told table trace watches progress.moment moment number t
  pub none : NoEntries trace.list moment number t m
  pub arrived : NoneBefore (quiet_of table) progress.moment watches (pair t m)
      → Arrived table trace watches progress.moment progress.end t m
  pub far : AreFar watches progress

-- All is judged up to the entry of terminal n at the moment of the clock, that entry included.
pub record Behind (table : Table) (trace : Recording) (progress : Progress) (watches : List Watch) (t n : ℕ) : Type 0 where
  pub moment : progress.moment ≡ t
  pub stands : Stands table trace watches t (n + 1)
  pub near : Near trace.list t progress.end (n + 1)
  pub far : AreFar watches progress

-- All is judged up to entry i of the list, that entry left out.
pub record JudgedTo (table : Table) (trace : Recording) (progress : Progress) (watches : List Watch) (i : ℕ) : Type 0 where
  pub number : ℕ
  pub stands : Stands table trace watches progress.moment number
  pub near : Near trace.list progress.moment progress.end number
  pub before : (k : ℕ) (x : Entry) → slice_get trace.list k ≡ Some x → k < i → IsBefore x.moment x.terminal progress.moment number
  pub behind : (k : ℕ) (x : Entry) → slice_get trace.list k ≡ Some x → i ≤ k → NotBefore x.moment x.terminal progress.moment number
  pub upto : (progress.moment < trace.horizon) ⊎ ((progress.moment ≡ 0) × (number ≡ 0))
  pub far : AreFar watches progress
