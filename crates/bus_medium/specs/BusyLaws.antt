-- A stretch of the bus that is busy: carrier at its first and its last bit time, and in between at one of five. A message is such a
-- stretch, and so are messages that begin together. For the timers it is as good as carrier throughout.
-- The contract of `laws::busy_stretches` says that each law with a name of its own holds; the proofs are for the crates above to cite.
use Rattle.std.specs.Prelude.{◌≡◌, ℕ, ◌+◌, ◌-◌, ◌<◌, ◌≤◌, true, List, length, Option}
use Rattle.bus_timers.specs.declared.timing.Timing.{Timing}
use Rattle.bus_timers.specs.Timings.{IsSound}
use Rattle.bus_timers.specs.MayStart.{MayStart}
use Rattle.bus_timers.specs.GapPlace.{GapFrom}
use Rattle.bus_strings.specs.Members.{In}
use Rattle.bus_strings.specs.Messages.{Entry}
use Rattle.bus_strings.specs.Transmissions.{carrier, end_of}
use Rattle.bus_medium.specs.Past.{past}

-- At one of five bit times from k on there is carrier.
pub record Heard (l : List Entry) (k : ℕ) : Type 0 where
  pub at : ℕ
  pub low : k ≤ at
  pub high : at ≤ k + 4
  pub on : carrier l at ≡ true

-- The bus is busy from moment a to moment b.
pub record IsBusy (l : List Entry) (a b : ℕ) : Type 0 where
  pub some : a < b
  pub first : carrier l a ≡ true
  pub final : carrier l (b - 1) ≡ true
  pub soon : (k : ℕ) → a ≤ k → k + 4 < b → Heard l k

-- It is so while a transmission lasts, whatever else is sent meanwhile.
abbrev pub EntryIsBusy : Type 0
EntryIsBusy = (l : List Entry) (x : Entry) → In x l → 0 < length x.message → IsBusy l x.moment (end_of x)

-- The stretch puts the place from which the terminal gap counts right behind it, where the synchronization gap had elapsed.
abbrev pub BusyElapsed : Type 0
BusyElapsed = (q : ℕ) (l : List Entry) (sg : ℕ) (last : Option ℕ) (a b g : ℕ) → 5 ≤ sg → IsBusy l a b → GapFrom sg (past q l a) last g
    → g ≤ q + a → GapFrom sg (past q l b) last (q + b)

-- And one synchronization gap behind it, where it had not.
abbrev pub BusyWaiting : Type 0
BusyWaiting = (q : ℕ) (l : List Entry) (sg : ℕ) (last : Option ℕ) (a b g : ℕ) → 5 ≤ sg → IsBusy l a b → GapFrom sg (past q l a) last g
    → q + a < g → GapFrom sg (past q l b) last (q + b + sg)

-- Behind its first bit time and before its end nobody may start.
abbrev pub BusyNobody : Type 0
BusyNobody = (q : ℕ) (l : List Entry) (timing : Timing) (last : Option ℕ) (a b u : ℕ) → IsSound timing → IsBusy l a b → a < u → u < b
    → MayStart timing (past q l u) last → ⊥
