-- The numbers by which a terminal's timers run, all in bit times.
--   ti: the transmit interval. sg: the synchronization gap. tg: the terminal gap.
--   quiet: how long the bus was quiet before the settled start.
--   due: when the transmit interval elapses for the first time, counted from the settled start.
use Rattle.std.specs.Prelude.{ℕ, ◌+◌, ◌<◌, ◌≤◌, Option, Some, None}
use Rattle.bus_timers.specs.declared.timing.Timing.{Timing}

-- Every number lies in its range.
pub record IsSound (timing : Timing) : Type 0 where
  pub ti_least : 1000 ≤ timing.ti
  pub ti_most : timing.ti ≤ 128000
  pub sg_least : 9 ≤ timing.sg
  pub sg_most : timing.sg ≤ 1024
  pub tg_least : 8 ≤ timing.tg
  pub tg_most : timing.tg ≤ 256
  pub tg_short : timing.tg < timing.sg
  pub quiet_least : timing.sg ≤ timing.quiet
  pub quiet_most : timing.quiet ≤ timing.sg + 256
  pub due_most : timing.due < 128000

-- The place in a past at which the transmit interval has elapsed: it runs from the last own start, and before the first one it is due at a
-- moment of its own.
abbrev pub due_place : Timing → Option ℕ → ℕ
due_place timing None = timing.quiet + timing.due
due_place timing (Some start) = start + timing.ti
