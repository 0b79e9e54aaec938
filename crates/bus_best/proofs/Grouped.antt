-- All groups together are all rules.
use Rattle.std.specs.Prelude.{◌==◌, get_or}
use Rattle.std.proofs.Common.{arith, ℕ, zero, suc, ◌≤◌, Bool, List, [], ◌∷◌, length}
use Rattle.bus_bounds.specs.Bounds.{Bounds}
use Rattle.bus_gaps.specs.declared.speaker.Speaker.{Speaker}
use Rattle.bus_gaps.specs.Gaps.{next_low, AreTaken}
use Rattle.bus_best.specs.Groups.{AreApartFrom, AllWait, AllOutlast, RoomyKeepsGroups}

module _ (bounds : Bounds) (sg : ℕ) (alone : Bool) where
  apart : (low : ℕ) (senders : List Speaker) (gaps : List ℕ) → AreTaken bounds sg alone low senders gaps
      → AreApartFrom bounds sg low (length senders) gaps
  apart low [] [] t = tt
  apart low [] (x ∷ gaps) t = absurd t
  apart low (a ∷ senders) [] t = absurd t
  apart low (a ∷ senders) (x ∷ gaps) t = (t.0.least, t.0.lasts, apart (next_low bounds sg x) senders gaps t.1)

  waiting : (low : ℕ) (senders : List Speaker) (gaps : List ℕ) → AreTaken bounds sg alone low senders gaps → AllWait bounds sg alone gaps
  waiting low [] [] t = tt
  waiting low [] (x ∷ gaps) t = absurd t
  waiting low (a ∷ senders) [] t = absurd t
  waiting low (a ∷ senders) (x ∷ gaps) t = (t.0.waits, waiting (next_low bounds sg x) senders gaps t.1)

  outlasting : (low : ℕ) (senders : List Speaker) (gaps : List ℕ) → AreTaken bounds sg alone low senders gaps → AllOutlast bounds sg senders gaps
  outlasting low [] gaps t = tt
  outlasting low (a ∷ senders) [] t = absurd t
  outlasting low (a ∷ senders) (x ∷ gaps) t = (t.0.outlasts, outlasting (next_low bounds sg x) senders gaps t.1)

  few : (low : ℕ) (senders : List Speaker) (gaps : List ℕ) → AreTaken bounds sg alone low senders gaps → (k : ℕ) → get_or gaps k 0 ≤ 256
  few low [] [] t k = omega arith
  few low [] (x ∷ gaps) t k = absurd t
  few low (a ∷ senders) [] t k = absurd t
  few low (a ∷ senders) (x ∷ gaps) t zero = t.0.most
  few low (a ∷ senders) (x ∷ gaps) t (suc k) = few (next_low bounds sg x) senders gaps t.1 k

  taken : (low : ℕ) (senders : List Speaker) (gaps : List ℕ) → AreApartFrom bounds sg low (length senders) gaps → AllWait bounds sg alone gaps
      → AllOutlast bounds sg senders gaps → ((k : ℕ) → get_or gaps k 0 ≤ 256) → AreTaken bounds sg alone low senders gaps
  taken low [] [] a w o f = tt
  taken low [] (x ∷ gaps) a w o f = absurd a
  taken low (b ∷ senders) [] a w o f = absurd a
  taken low (b ∷ senders) (x ∷ gaps) a w o f = (
    record { least = a.0; most = f 0; lasts = a.1; outlasts = o.0; waits = w.0 },
    taken (next_low bounds sg x) senders gaps a.2 w.1 o.1 (λ k. f (suc k)),
  )

pub roomy_keeps_groups : RoomyKeepsGroups
roomy_keeps_groups bounds senders sg gaps = (
  (λ r. record {
    whole = record { least = r.least; lasts = r.whole };
    apart = apart bounds sg (length senders == 1) _ senders gaps r.taken;
    waiting = waiting bounds sg (length senders == 1) _ senders gaps r.taken;
    outlasting = outlasting bounds sg (length senders == 1) _ senders gaps r.taken;
    most = r.most;
    few = few bounds sg (length senders == 1) _ senders gaps r.taken;
  }),
  (λ k. record {
    least = k.whole.least;
    most = k.most;
    whole = k.whole.lasts;
    taken = taken bounds sg (length senders == 1) _ senders gaps k.apart k.waiting k.outlasting k.few;
  }),
)
