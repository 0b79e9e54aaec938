-- Counts of faults. A source and a sink each count how often the outside has failed them. A count in a u64 stays at the last value of
-- that type.
--
--   Rose before now    the count rose in a call
--   Fails before now   what a call that answers a fault does to the count; every other answer leaves it as it was
use Rattle.std.specs.Prelude.{◌≡◌, ℕ, ◌+◌, ◌-◌, ◌^◌, ◌<◌, ◌≤◌, ◌⊎◌, min}

-- The last value of a u64.
abbrev pub last_u64 : ℕ
last_u64 = 2 ^ 64 - 1

-- One more, up to the last value of a u64.
abbrev pub one_more : ℕ → ℕ
one_more n = min (n + 1) last_u64

-- A count rose where it is greater after a call than before it, or stands at the last value of a u64.
abbrev pub Rose : ℕ → ℕ → Type 0
Rose before now = (before < now) ⊎ (now ≡ last_u64)

-- The outside failed: the count rose, and it never falls.
abbrev pub Fails : ℕ → ℕ → Type 0
Fails before now = (before ≤ now) × Rose before now
