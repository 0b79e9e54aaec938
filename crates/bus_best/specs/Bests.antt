-- The best gaps, by computation.
use Rattle.std.specs.Prelude.{◌≡◌, ℕ, zero, suc, ◌+◌, ◌-◌, ◌≤◌, Bool, ◌&&◌, ◌==◌, nat_le, List, [], ◌∷◌, length, Option, Some, None, if◌then◌else◌}
use Rattle.std.specs.Option.{option_map}
use Rattle.bus_bounds.specs.Bounds.{Bounds, most_clocks}
use Rattle.bus_gaps.specs.declared.speaker.Speaker.{Speaker}
use Rattle.bus_gaps.specs.Gaps.{least_ti, least_sg, most_sg, least_tg, most_tg, least_time, most_time, drop_of, first_low, next_low}
use Rattle.bus_gaps.specs.Designs.{AreAtMost, AreNone, AreRoomy, cycle_of}
use Rattle.bus_best.specs.Blames.{waits}

-- Whether a sender may have a gap of x bit times that lasts so long at least.
abbrev pub takes : Bounds → ℕ → Bool → Speaker → ℕ → ℕ → Bool
takes bounds sg alone a low x =
    nat_le low (least_time bounds x)
    && (nat_le (most_time bounds least_ti) (least_time bounds a.shortest + least_time bounds sg + most_time bounds x) && waits bounds sg alone x)

-- The first of so many numbers, from this one on, that passes a test.
unfoldable pub first_from : (ℕ → Bool) → ℕ → ℕ → Option ℕ
first_from test x zero = None
first_from test x (suc n) = if test x then Some x else first_from test (suc x) n

abbrev pub least_taken : Bounds → ℕ → Bool → Speaker → ℕ → Option ℕ
least_taken bounds sg alone a low = first_from (takes bounds sg alone a low) least_tg (suc most_tg - least_tg)

abbrev pub with_rest : Option ℕ → (ℕ → Option (List ℕ)) → Option (List ℕ)
with_rest None rest = None
with_rest (Some x) rest = option_map (λ gaps. x ∷ gaps) (rest x)

-- The least gap of each sender, behind that of the one before it.
abbrev pub gaps_from : Bounds → ℕ → Bool → ℕ → List Speaker → Option (List ℕ)
gaps_from bounds sg alone low [] = Some []
gaps_from bounds sg alone low (a ∷ senders) =
    with_rest (least_taken bounds sg alone a low) (λ x. gaps_from bounds sg alone (next_low bounds sg x) senders)

-- Gaps, and how long the longest cycle is with them.
pub record Best : Type 0 where
  pub sg : ℕ
  pub gaps : List ℕ
  pub cycle : ℕ

abbrev pub with_gaps : Bounds → List Speaker → ℕ → List ℕ → Best
with_gaps bounds senders sg gaps = record { sg = sg; gaps = gaps; cycle = cycle_of bounds senders sg gaps }

-- The least gaps with this synchronization gap.
abbrev pub best_with : Bounds → List Speaker → ℕ → Option Best
best_with bounds senders sg =
    if nat_le (drop_of bounds) (least_time bounds sg)
    then option_map (with_gaps bounds senders sg) (gaps_from bounds sg (length senders == 1) (first_low bounds sg (length senders == 1)) senders)
    else None

-- Those with the lesser cycle, the latter where neither is less.
abbrev pub better : Option Best → Option Best → Option Best
better None made = made
better (Some known) None = Some known
better (Some known) (Some made) = Some (if nat_le made.cycle known.cycle then made else known)

-- The best of so many synchronization gaps, from the least on.
unfoldable pub best_among : Bounds → List Speaker → ℕ → Option Best
best_among bounds senders zero = None
best_among bounds senders (suc n) = better (best_among bounds senders n) (best_with bounds senders (least_sg + n))

abbrev pub best_of : Bounds → List Speaker → Option Best
best_of bounds senders = best_among bounds senders (suc most_sg - least_sg)

-- ---- what it means

--   roomy  with these gaps order comes from any start,
--   cycle  and their longest cycle is told;
--   best   no such gaps have a lesser one,
--   last   nor, with the same, a greater synchronization gap,
--   least  nor, with the same synchronization gap, a lesser terminal gap.
pub record AreBest (bounds : Bounds) (senders : List Speaker) (found : Best) : Type 0 where
  pub roomy : AreRoomy bounds senders found.sg found.gaps
  pub cycle : found.cycle ≡ cycle_of bounds senders found.sg found.gaps
  pub best : (sg : ℕ) (others : List ℕ) → AreRoomy bounds senders sg others → found.cycle ≤ cycle_of bounds senders sg others
  pub last : (sg : ℕ) (others : List ℕ) → AreRoomy bounds senders sg others → cycle_of bounds senders sg others ≡ found.cycle → sg ≤ found.sg
  pub least : (others : List ℕ) → AreRoomy bounds senders found.sg others → AreAtMost found.gaps others

abbrev pub IsAnswer : Bounds → List Speaker → Option Best → Type 0
IsAnswer bounds senders None = AreNone bounds senders
IsAnswer bounds senders (Some best) = AreBest bounds senders best

-- What is computed is the best.
abbrev pub BestIsBest : Type 0
BestIsBest = (bounds : Bounds) (senders : List Speaker) → bounds.clocks ≤ most_clocks → IsAnswer bounds senders (best_of bounds senders)
