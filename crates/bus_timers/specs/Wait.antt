-- How long a terminal waits on a quiet bus until it may start, and how far its timers go at once.
use Rattle.std.specs.Prelude.{ℕ, ◌<◌, ◌++◌, Bool, false, List, replicate, Option}
use Rattle.bus_timers.specs.declared.timing.Timing.{Timing}
use Rattle.bus_timers.specs.MayStart.{MayStart}

-- Wait is the least number of further quiet bit times after which the terminal may start, 0 where it may now.
pub record IsWait (timing : Timing) (past : List Bool) (last : Option ℕ) (wait : ℕ) : Type 0 where
  pub then : MayStart timing (past ++ replicate wait false) last
  pub not_before : (k : ℕ) → k < wait → MayStart timing (past ++ replicate k false) last → ⊥

-- The most bit times that timers are passed at once.
abbrev pub longest_pass : ℕ
longest_pass = 1099511627776
