-- A whole history of bit times, told to timers in short.
use Rattle.std.specs.Prelude.{◌≡◌, ℕ, ◌+◌, ◌-◌, ◌++◌, Bool, List, length, Option, if◌then◌else◌}
use Rattle.bus_timers.specs.declared.timing.Timing.{Timing}
use Rattle.bus_timers.specs.declared.history.History.{History}
use Rattle.bus_timers.specs.GapPlace.{GapFrom}
use Rattle.bus_timers.specs.Told.{Stands}

-- These bit times, heard behind this past, are those of which the history tells: as many, and at their end the terminal gap counts from
-- where its quiet begins, or will from one synchronization gap behind that, where the synchronization gap has not elapsed.
pub record Tells (sg : ℕ) (past : List Bool) (last : Option ℕ) (history : History) (bits : List Bool) : Type 0 where
  pub long : length bits ≡ history.bits
  pub gap : GapFrom sg (past ++ bits) last (length (past ++ bits) - history.quiet + (if history.synchronized then 0 else sg))

-- A core has heard a history: whichever bit times it tells of, they are behind each past for which the core stood.
abbrev pub HasHeardAll : Stands → Stands → History → Type 0
HasHeardAll before after history =
    (timing : Timing) (past : List Bool) (last : Option ℕ) (bits : List Bool) → before timing past last
    → Tells timing.sg past last history bits → after timing (past ++ bits) last
