-- What follows of a sound timing.
use Rattle.std.specs.Prelude.{◌<◌, ◌≤◌}
use Rattle.std.proofs.Common.{arith}
use Rattle.bus_timers.specs.declared.timing.Timing.{Timing}
use Rattle.bus_timers.specs.Timings.{IsSound}

-- there is a synchronization gap
pub sound_sg : (timing : Timing) → IsSound timing → 0 < timing.sg
sound_sg timing s = let a : 8 ≤ timing.tg = s.tg_least in let b : timing.tg < timing.sg = s.tg_short in omega arith

-- there is a terminal gap
pub sound_tg : (timing : Timing) → IsSound timing → 0 < timing.tg
sound_tg timing s = let a : 8 ≤ timing.tg = s.tg_least in omega arith
