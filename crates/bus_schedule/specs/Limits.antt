-- The limit on the closed end, and why no schedule is given.
use Rattle.std.specs.Prelude.{◌≡◌, ℕ, ◌^◌, ◌<◌, ◌≤◌, Result, Err, IfOk, IfErr}
use Rattle.bus_schedule.specs.declared.error.ScheduleError.{ScheduleError}
use Rattle.bus_schedule.specs.declared.error.ScheduleError.TheVariants.{Memory, TooLong}

-- The longest closed end for which a schedule is given, in bit times: some nine and a half hours. It is this project's profile.
abbrev pub longest_end : ℕ
longest_end = 2 ^ 36

-- Why a schedule with this closed end is refused.
abbrev pub IsRefused : ℕ → ScheduleError → Type 0
-- Memory may be refused whatever the end.
IsRefused end Memory = Unit {0}
-- It is too long only above the limit, and its end is told.
IsRefused end (TooLong told) = (longest_end < end) × (told ≡ end)

-- The result for a schedule with this closed end:
--   within     it is Ok only where the end is within the limit
--   too_long   above the limit it is TooLong with the end, whatever memory is left
--   refused    it is TooLong only above the limit, with the end; memory may be refused for any
pub record IsLimited {X : Type 0} (end : ℕ) (result : Result X ScheduleError) : Type 0 where
  pub within : IfOk result (λ _. end ≤ longest_end)
  pub too_long : longest_end < end → result ≡ Err (TooLong end)
  pub refused : IfErr result (IsRefused end)
