-- The timers of a terminal after what it has heard up to a moment, as two places in the past of the bus.
use Rattle.std.specs.Prelude.{◌≡◌, ℕ, ◌+◌, ◌-◌, ◌<◌, ◌≤◌, ◌⊎◌, max, nat_le, List, length, if◌then◌else◌}
use Rattle.bus_timers.specs.declared.timing.Timing.{Timing}
use Rattle.bus_timers.specs.Timings.{due_place}
use Rattle.bus_strings.specs.Members.{In}
use Rattle.bus_strings.specs.Messages.{Entry}
use Rattle.bus_medium.specs.Past.{own}
use Rattle.bus_medium.specs.Lawful.{Station}
use Rattle.bus_medium.specs.Delays.{Delays, heard}
use Rattle.bus_medium.specs.Wakes.{Wakes, woken_place}
use Rattle.bus_medium.specs.Clocks.{GapAt}
use Rattle.bus_medium.specs.CableLawful.{IsDueOnCable}

-- All transmissions of this terminal began before a moment.
abbrev pub HaveBegun : List Entry → ℕ → ℕ → Type 0
HaveBegun list number u = (x : Entry) → In x list → x.terminal ≡ number → x.moment < u

-- Where the terminal gap counts from behind an arrival that ends at moment `end`, where it counted from place `gap_from` at moment `at`.
abbrev pub gap_after : ℕ → ℕ → ℕ → ℕ → ℕ → ℕ
gap_after quiet sg gap_from at end = if nat_le gap_from (quiet + at) then quiet + end else quiet + end + sg

-- The moment from which both timers allow a start, if nothing more is heard.
abbrev pub ready_moment : Timing → ℕ → ℕ → ℕ
ready_moment timing due gap_from = max due (gap_from + timing.tg) - timing.quiet

-- The terminal has heard what the list tells up to moment v. Its interval elapses at place `due`, its terminal gap counts from `gap_from`:
--   powered   it was powered up by then
--   begun     its own transmissions began by then
--   fresh     it was powered up, started or heard the end of something there, or nothing has come since the settled start.
pub record Hears (delay : Delays) (wake : Wakes) (s : Station) (list : List Entry) (v due gap_from : ℕ) : Type 0 where
  pub powered : wake s.number ≤ s.timing.quiet + v
  pub begun : HaveBegun list s.number (v + 1)
  pub interval : due_place s.timing (woken_place s.timing.quiet (wake s.number) (own list s.number (v + 1))) + wake s.number ≡ due
  pub gap : GapAt s.timing.sg s.timing.quiet (wake s.number) (heard delay s.number list) v
      (woken_place s.timing.quiet (wake s.number) (own list s.number (v + 1))) gap_from
  pub fresh : (gap_from ≡ s.timing.quiet + v) ⊎ ((gap_from ≡ s.timing.quiet + v + s.timing.sg) ⊎ ((v ≡ 0) × HaveBegun list s.number 0))

-- It isn't due at any moment from v on and before u, where it hasn't begun.
abbrev pub RestsUntil : Delays → Wakes → Station → List Entry → ℕ → ℕ → Type 0
RestsUntil delay wake s list v u =
    (m : ℕ) → v ≤ m → m < u → HaveBegun list s.number m → IsDueOnCable s.timing.quiet delay wake list s m → ⊥

-- Moment u is the next at which it starts, if it has a message left and hears nothing more.
pub record IsNextStart (delay : Delays) (wake : Wakes) (s : Station) (list : List Entry) (v u : ℕ) : Type 0 where
  pub low : v ≤ u
  pub begun : HaveBegun list s.number u
  pub rests : RestsUntil delay wake s list v u
  pub due : length (own list s.number u) < length s.hand → IsDueOnCable s.timing.quiet delay wake list s u

-- No message of the list is empty.
abbrev pub HaveWords : List Entry → Type 0
HaveWords list = (x : Entry) → In x list → 0 < length x.message
