-- The ends of the longest messages, kept by places of turn order.
use Rattle.std.specs.Prelude.{◌≡◌, ℕ, ◌<◌, ◌≤◌, ◌^◌, List, IsSomeAnd, length, slice_get, slice_index}
use Rattle.bus_table.specs.Tables.{Table}
use Rattle.bus_table.specs.Turns.{turn_order}
use Rattle.bus_regime.specs.Gaps.{latest_end}

-- Place k of these tells where the longest message of the sender at place k of turn order ends in the first interval.
pub record IsEnd (table : Table) (ends : List ℕ) (k : ℕ) : Type 0 where
  pub bound : slice_index ends k ≤ 2 ^ 33
  pub value : IsSomeAnd (slice_get (turn_order table) k) (λ sender. slice_index ends k ≡ latest_end sender)

-- So it is for each sender.
abbrev pub AreEnds : Table → List ℕ → Type 0
AreEnds table ends = (k : ℕ) → k < length table.senders → IsEnd table ends k
