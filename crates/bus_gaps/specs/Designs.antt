-- The design of an aperiodic bus: the gaps with which its longest cycle is the least.
use Rattle.std.specs.Prelude.{◌≡◌, ℕ, ◌+◌, ◌≤◌, ◌==◌, nat_le, List, [], ◌∷◌, length, Option, Some, None, if◌then◌else◌}
use Rattle.bus_bounds.specs.Bounds.{Bounds}
use Rattle.bus_gaps.specs.declared.speaker.Speaker.{Speaker}
use Rattle.bus_gaps.specs.declared.design.Design.{Design}
use Rattle.bus_gaps.specs.Gaps.{least_time, most_time, drop_of, least_sg, most_sg, AreGaps}

-- These are as many as the others, and none is greater than the one at its place.
abbrev pub AreAtMost : List ℕ → List ℕ → Type 0
AreAtMost [] [] = Unit {0}
AreAtMost [] (y ∷ others) = ⊥
AreAtMost (x ∷ gaps) [] = ⊥
AreAtMost (x ∷ gaps) (y ∷ others) = (x ≤ y) × AreAtMost gaps others

-- These gaps are such that order comes from any start: no synchronization gap is over within a message either.
pub record AreRoomy (bounds : Bounds) (senders : List Speaker) (sg : ℕ) (gaps : List ℕ) : Type 0 where
  pub least : least_sg ≤ sg
  pub most : sg ≤ most_sg
  pub whole : drop_of bounds ≤ least_time bounds sg
  pub taken : AreGaps bounds senders sg gaps

-- And with that synchronization gap each is the least.
pub record AreLeast (bounds : Bounds) (senders : List Speaker) (sg : ℕ) (gaps : List ℕ) : Type 0 where
  pub roomy : AreRoomy bounds senders sg gaps
  pub least : (others : List ℕ) → AreRoomy bounds senders sg others → AreAtMost gaps others

-- By how much a sender is heard later by another that sends.
abbrev pub delay_among : Bounds → ℕ → ℕ
delay_among bounds count = if count == 1 then 0 else bounds.delay

-- How long the senders take at most with these gaps, each once.
abbrev pub spoken : Bounds → ℕ → List Speaker → List ℕ → ℕ
spoken bounds delay [] gaps = 0
spoken bounds delay (a ∷ senders) [] = 0
spoken bounds delay (a ∷ senders) (x ∷ gaps) =
    delay + most_time bounds x + most_time bounds a.longest + spoken bounds delay senders gaps

-- How long the longest cycle is.
abbrev pub cycle_of : Bounds → List Speaker → ℕ → List ℕ → ℕ
cycle_of bounds senders sg gaps = most_time bounds sg + spoken bounds (delay_among bounds (length senders)) senders gaps

-- The gaps of a design are the least with its synchronization gap, and its longest cycle is told.
pub record IsDesign (bounds : Bounds) (senders : List Speaker) (design : Design) : Type 0 where
  pub gaps : AreLeast bounds senders design.sg design.gaps.items
  pub cycle : design.cycle ≡ cycle_of bounds senders design.sg design.gaps.items

-- The design with the lesser cycle, the latter where neither is less; the other one where there is but one.
abbrev pub kept : Option Design → Option Design → Option Design
kept None made = made
kept (Some known) None = Some known
kept (Some known) (Some made) = Some (if nat_le made.cycle known.cycle then made else known)

-- The best design:
--   own    its terminal gaps are the least with its synchronization gap
--   best   no gaps have a lesser longest cycle,
--   last   and those that have the same have no greater synchronization gap.
pub record IsBest (bounds : Bounds) (senders : List Speaker) (design : Design) : Type 0 where
  pub own : IsDesign bounds senders design
  pub best : (sg : ℕ) (others : List ℕ) → AreRoomy bounds senders sg others → design.cycle ≤ cycle_of bounds senders sg others
  pub last : (sg : ℕ) (others : List ℕ) → AreRoomy bounds senders sg others → cycle_of bounds senders sg others ≡ design.cycle
      → sg ≤ design.sg

-- No gaps are roomy with this synchronization gap, and with none.
abbrev pub AreNoneWith : Bounds → List Speaker → ℕ → Type 0
AreNoneWith bounds senders sg = (others : List ℕ) → AreRoomy bounds senders sg others → ⊥

abbrev pub AreNone : Bounds → List Speaker → Type 0
AreNone bounds senders = (sg : ℕ) → AreNoneWith bounds senders sg
