-- What terminals hear of transmissions: each hears each one in its own way, its beginning and its end by delays of their own, with quiet
-- inside.
use Rattle.std.specs.Prelude.{◌≡◌, ℕ, ◌+◌, ◌<◌, ◌≤◌, Bool, true, false, ◌||◌, List, [], ◌∷◌}
use Rattle.bus_clocks.specs.Entries.{Entry, end_of}

-- What terminal n hears of a transmission, with a delay up to d: carrier only from its beginning on and until d ticks behind its end; the
-- first within d ticks; the last no earlier than in its last tick; and from the first to the last no `drop` quiet ticks in a row.
pub record Hears (hears : Entry → ℕ → ℕ → Bool) (d drop : ℕ) (x : Entry) (n : ℕ) : Type 0 where
  pub within : (t : ℕ) → hears x n t ≡ true → (x.moment ≤ t) × (t < end_of x + d)
  pub first : ℕ
  pub last : ℕ
  pub first_heard : hears x n first ≡ true
  pub first_soon : first ≤ x.moment + d
  pub last_heard : hears x n last ≡ true
  pub last_late : end_of x ≤ last + 1
  pub filled : (t : ℕ) → first ≤ t → t ≤ last → (u : ℕ) × (t ≤ u) × (u < t + drop) × (hears x n u ≡ true)

-- Whether terminal n hears carrier of one of these transmissions at tick t.
abbrev pub hears_any : (Entry → ℕ → ℕ → Bool) → List Entry → ℕ → ℕ → Bool
hears_any hears [] n t = false
hears_any hears (x ∷ xs) n t = hears x n t || hears_any hears xs n t
