-- What is known of each turn of two rounds.
use Rattle.std.specs.Prelude.{◌≡◌, ℕ, ◌+◌, ◌*◌, ◌^◌, ◌<◌, ◌≤◌, ◌==◌, true, false, slice_index, if◌then◌else◌}
use Rattle.bus_clocks.specs.Buses.{Bus}
use Rattle.bus_drift.specs.Turns.{fastest}
use Rattle.bus_margins_periodic.specs.declared.ahead.Ahead.{Ahead}
use Rattle.bus_margins_periodic.specs.Rooms.{is_close}

-- The next turn behind turn j that it doesn't come before by the gaps alone, where there is one less than a round behind it.
pub record IsNext (bus : Bus) (j next : ℕ) : Type 0 where
  pub behind : j < next
  pub before : (k : ℕ) → j < k → k < next → is_close bus j k ≡ false
  pub close : next < j + bus.senders → is_close bus j next ≡ true

pub record AreAhead (bus : Bus) (ahead : Ahead) : Type 0 where
  pub next : (j : ℕ) → j < 2 * bus.senders → IsNext bus j (slice_index ahead.next j)
  pub fast : (k : ℕ) → k < 2 * bus.senders → slice_index ahead.fast k ≡ fastest bus 0 k
  pub bound : (k : ℕ) → k < 2 * bus.senders → slice_index ahead.fast k ≤ 2 ^ 40

-- The first turn behind turn j of which there is a rule, where turn i is late and j held back.
abbrev pub first_due : Ahead → ℕ → ℕ → ℕ
first_due ahead i j = if i == j then j + 1 else slice_index ahead.next j
