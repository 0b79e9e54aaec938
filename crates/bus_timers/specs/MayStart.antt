-- When a terminal may start: its three timers, told of the past.
--   past: what a terminal has heard, a bit time each, the oldest first; true is carrier.
--   place: a moment, as the number of bit times of the past before it. The past ends at the place `length past`.
--   last: the place of the terminal's last own start, if it has started.
use Rattle.std.specs.Prelude.{◌≡◌, ℕ, ◌+◌, ◌-◌, ◌<◌, ◌≤◌, Bool, true, false, List, length, slice_index_or, Option, IfSome}
use Rattle.bus_timers.specs.declared.timing.Timing.{Timing}
use Rattle.bus_timers.specs.Timings.{due_place}

-- The bit times of the past from place i to place j are all quiet, and none is missing.
abbrev pub IsQuiet : List Bool → ℕ → ℕ → Type 0
IsQuiet past i j = (k : ℕ) → i ≤ k → k < j → slice_index_or past k true ≡ false

-- At place e the synchronization gap has elapsed: the sg bit times before it are quiet, and none of them is before the last own start.
pub record IsSync (sg : ℕ) (past : List Bool) (last : Option ℕ) (e : ℕ) : Type 0 where
  pub long : sg ≤ e
  pub quiet : IsQuiet past (e - sg) e
  pub own : IfSome last (λ start. start ≤ e - sg)

-- At the end of this past the terminal may start:
--   interval: its transmit interval has elapsed;
--   synchronized: its synchronization gap elapsed somewhere, with room for the terminal gap behind it;
--   gap_fits, gap: the last bit times, as many as the terminal gap has, are all quiet.
pub record MayStart (timing : Timing) (past : List Bool) (last : Option ℕ) : Type 0 where
  pub interval : due_place timing last ≤ length past
  pub synchronized : (e : ℕ) × (e + timing.tg ≤ length past) × IsSync timing.sg past last e
  pub gap_fits : timing.tg ≤ length past
  pub gap : IsQuiet past (length past - timing.tg) (length past)
