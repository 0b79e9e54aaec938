-- How a periodic bus begins.
use Rattle.std.specs.Prelude.{◌≡◌, ℕ, ◌+◌, ◌<◌, ◌≤◌, false}
use Rattle.bus_clocks.specs.Buses.{Bus}
use Rattle.bus_clocks.specs.Courses.{Course}

-- The bus begins at moment `start`:
--   powered   all senders are powered up within the delay from then on, in any state
--   due       each is due for the first time within its bounds, counted from there
--   still     and nothing but transmissions is heard.
pub record Begins (bus : Bus) (c : Course) (start : ℕ) (soon late : ℕ → ℕ) : Type 0 where
  pub powered : (k : ℕ) → k < bus.senders → (start ≤ c.up k) × (c.up k ≤ start + bus.delay)
  pub due : (k : ℕ) → k < bus.senders → (start + soon k ≤ c.due k) × (c.due k ≤ start + late k)
  pub still : (n t : ℕ) → start ≤ t → c.noise n t ≡ false
