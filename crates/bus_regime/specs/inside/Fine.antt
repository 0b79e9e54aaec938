-- What the verdict asks of each gap of a periodic table, as a fact. No public clause cites it.
use Rattle.std.specs.Prelude.{◌≢◌, ℕ, ◌+◌, ◌<◌, ◌≤◌, ◌⊎◌, List}
use Rattle.bus_strings.specs.Members.{In}
use Rattle.bus_regime.specs.Gaps.{Gap}

-- The gap of another sender has at least one synchronization gap.
pub record IsSynchronized (sg : ℕ) (all : List Gap) (gap : Gap) : Type 0 where
  pub other : Gap
  pub among : In other all
  pub apart : other.sender.number ≢ gap.sender.number
  pub wide : other.from + sg ≤ other.to

-- A gap has at least its sender's terminal gap, and either room for a synchronization gap before that, or another sender's gap has.
pub record IsFine (sg : ℕ) (all : List Gap) (gap : Gap) : Type 0 where
  pub wide : gap.from + gap.sender.tg ≤ gap.to
  pub sync : (gap.from + (sg + gap.sender.tg) ≤ gap.to) ⊎ IsSynchronized sg all gap

-- Some gap is below its sender's terminal gap.
pub record HasSmall (all : List Gap) : Type 0 where
  pub gap : Gap
  pub among : In gap all
  pub small : gap.to < gap.from + gap.sender.tg

-- Some gap has no room for a synchronization gap and its sender's terminal gap, and no other sender's gap has a synchronization gap.
pub record HasUnsynchronized (sg : ℕ) (all : List Gap) : Type 0 where
  pub gap : Gap
  pub among : In gap all
  pub narrow : gap.to < gap.from + (sg + gap.sender.tg)
  pub others : (other : Gap) → In other all → other.sender.number ≢ gap.sender.number → other.to < other.from + sg
