-- How the code keeps watches: all senders hear the same bus, so where the terminal gap of each counts from follows from what all have
-- heard, and from whether its own synchronization gap has elapsed.
use Rattle.std.specs.Prelude.{◌≡◌, ℕ, ◌+◌, ◌<◌, ◌≤◌, ◌⊎◌, nat_lt, nat_le, ◌==◌, List, map, slice_get, Some, if◌then◌else◌}
use Rattle.bus_outer.specs.Faults.{last_u64}
use Rattle.bus_audit.specs.declared.watch.Watch.{Watch}
use Rattle.bus_audit.specs.declared.lazy_timers.LazyTimers.{LazyTimers}
use Rattle.bus_audit.specs.declared.lazy_timers.Heard.{Heard}
use Rattle.bus_audit.specs.inside.Watches.{ready, pair}

-- The pair at which a sender is next missed if the bus stays quiet, as a number, counted from the beginning of the past; with no message
-- left a number that is never reached.
abbrev pub soon_of : Watch → ℕ
soon_of watch = if watch.left == 0 then last_u64 else pair (ready watch) watch.number

-- What is kept at the settled start.
abbrev pub lazy_of : Watch → LazyTimers
lazy_of watch = record { watch = watch; last = 0; behind = watch.timing.sg; soon = soon_of watch }

-- The place from which the terminal gap counts, or will: of a sender that began since the bus became busy last, and of the others.
abbrev pub gap_of : Heard → LazyTimers → ℕ
gap_of heard lazy = if nat_lt heard.from lazy.last then lazy.last + lazy.watch.timing.sg else heard.ended + lazy.behind

-- The watch that is kept.
abbrev pub watch_of : Heard → LazyTimers → Watch
watch_of heard lazy = record lazy.watch { gap = gap_of heard lazy }

-- The watches of all.
abbrev pub watches_of : Heard → List LazyTimers → List Watch
watches_of heard timers = map (watch_of heard) timers

-- How far behind its end the terminal gap counts from a busy stretch that begins at this place.
abbrev pub gap_behind : ℕ → Watch → ℕ
gap_behind from watch = if nat_le watch.gap from then 0 else watch.timing.sg

-- What is kept of a sender that is told of such a stretch.
abbrev pub told_busy : Heard → ℕ → LazyTimers → LazyTimers
told_busy heard from lazy = record lazy { behind = gap_behind from (watch_of heard lazy) }

-- No sender with messages left is missed before this pair, counted from the beginning of the past.
abbrev pub NotSooner : ℕ → List Watch → Type 0
NotSooner first watches = (j : ℕ) (w : Watch) → slice_get watches j ≡ Some w → 0 < w.left → first ≤ pair (ready w) w.number

-- What is kept at a place is right. Who began since the bus became busy last did so at that place, and is heard up to the place till.
pub record IsKept (heard : Heard) (place till : ℕ) (lazy : LazyTimers) : Type 0 where
  pub sg : lazy.watch.timing.sg ≡ heard.sg
  pub counted : (lazy.behind ≡ 0) ⊎ (lazy.behind ≡ heard.sg)
  pub last : lazy.last ≤ place
  pub fresh : heard.from < lazy.last → (lazy.last ≡ place) × (lazy.behind ≡ heard.sg) × (place < till)
  pub early : 0 < lazy.watch.left → lazy.soon ≤ pair (ready (watch_of heard lazy)) lazy.watch.number

-- Of all.
pub record AreKept (heard : Heard) (place till : ℕ) (timers : List LazyTimers) : Type 0 where
  pub from : heard.from < place
  pub ended : heard.ended ≤ place
  pub each : (j : ℕ) (k : LazyTimers) → slice_get timers j ≡ Some k → IsKept heard place till k

-- None tells too late when its sender is missed.
abbrev pub AreEarly : Heard → List LazyTimers → Type 0
AreEarly heard timers =
    (j : ℕ) (k : LazyTimers) → slice_get timers j ≡ Some k → 0 < k.watch.left → k.soon ≤ pair (ready (watch_of heard k)) k.watch.number

-- What is kept where the bus is quiet: nobody began since it became busy last.
pub record AreStill (heard : Heard) (place : ℕ) (timers : List LazyTimers) : Type 0 where
  pub kept : (till : ℕ) → AreKept heard place till timers
  pub last : (j : ℕ) (k : LazyTimers) → slice_get timers j ≡ Some k → k.last ≤ heard.from
