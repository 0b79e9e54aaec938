-- A stretch of a trace, of which alone something is shown.
use Rattle.std.specs.Prelude.{ℕ, ◌<◌, ◌≤◌, Bool, ◌&&◌, nat_lt, nat_le, max}
use Rattle.bus_strings.specs.Limits.{horizon_limit}

-- From a moment to a later one, which is not shown itself.
pub record Window : Type 0 where
  pub from : ℕ
  pub to : ℕ

-- It isn't empty, and goes no further than a trace may.
pub record IsWindow (window : Window) : Type 0 where
  pub some : window.from < window.to
  pub within : window.to ≤ horizon_limit

-- All moments below a horizon, and at least one.
abbrev pub whole : ℕ → Window
whole horizon = record { from = 0; to = max horizon 1 }

-- Whether a window holds a moment.
abbrev pub holds : Window → ℕ → Bool
holds window t = nat_le window.from t && nat_lt t window.to
