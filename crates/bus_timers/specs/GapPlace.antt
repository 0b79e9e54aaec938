-- The one place that tells how far the two gaps have come: the place from which the terminal gap counts.
--
--   elapsed:   |-- sg quiet bit times --|  messages of others  |g-- quiet -->|end      the terminal gap counts from g
--   waiting:   start or carrier|<-- quiet -->|end . . . . . . .|g                      g is sg behind where the quiet began
--
-- `past`, `place` and `last` are those of `MayStart`.
use Rattle.std.specs.Prelude.{ℕ, ◌+◌, ◌-◌, ◌<◌, ◌≤◌, ◌⊎◌, Bool, List, length, Option, unwrap_or}
use Rattle.bus_timers.specs.MayStart.{IsQuiet, IsSync}

-- The synchronization gap has elapsed, at g or before, and g is the first place from which the terminal gap may count.
pub record Elapsed (sg : ℕ) (past : List Bool) (last : Option ℕ) (g : ℕ) : Type 0 where
  pub reached : g ≤ length past
  pub sync : (e : ℕ) × (e ≤ g) × IsSync sg past last e
  pub quiet : IsQuiet past g (length past)
  pub least : (e m : ℕ) → IsSync sg past last e → e ≤ m → IsQuiet past m (length past) → g ≤ m

-- The synchronization gap has not elapsed, and g is the first place at which it does if the bus stays quiet.
pub record Waiting (sg : ℕ) (past : List Bool) (last : Option ℕ) (g : ℕ) : Type 0 where
  pub ahead : length past < g
  pub near : g ≤ length past + sg
  pub own : unwrap_or last 0 + sg ≤ g
  pub quiet : IsQuiet past (g - sg) (length past)
  pub none : (e : ℕ) → IsSync sg past last e → ⊥
  pub least : (m : ℕ) → unwrap_or last 0 ≤ m → IsQuiet past m (length past) → g ≤ m + sg

-- The terminal gap counts from place g, or will.
abbrev pub GapFrom : ℕ → List Bool → Option ℕ → ℕ → Type 0
GapFrom sg past last g = Elapsed sg past last g ⊎ Waiting sg past last g
