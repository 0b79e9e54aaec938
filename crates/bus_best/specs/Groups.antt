-- The rules of gaps in the groups in which they are held to blame, without the limits of gaps: whole messages, then gaps that are apart, then gaps that wait, then gaps that outlast the transmit interval.
use Rattle.std.specs.Prelude.{ℕ, zero, suc, ◌+◌, ◌≤◌, Bool, ◌==◌, ◌↔◌, List, [], ◌∷◌, length, get_or}
use Rattle.bus_bounds.specs.Bounds.{Bounds}
use Rattle.bus_gaps.specs.declared.speaker.Speaker.{Speaker}
use Rattle.bus_gaps.specs.Gaps.{least_ti, least_sg, most_sg, least_tg, most_tg, least_time, most_time, drop_of, first_low, next_low, Waits}
use Rattle.bus_gaps.specs.Designs.{AreRoomy}

-- Within no message this synchronization gap is over.
pub record IsWhole (bounds : Bounds) (sg : ℕ) : Type 0 where
  pub least : least_sg ≤ sg
  pub lasts : drop_of bounds ≤ least_time bounds sg

-- So many gaps last as long as the ones before them ask, the first as long as is told.
abbrev pub AreApartFrom : Bounds → ℕ → ℕ → ℕ → List ℕ → Type 0
AreApartFrom bounds sg low zero [] = Unit {0}
AreApartFrom bounds sg low zero (x ∷ gaps) = ⊥
AreApartFrom bounds sg low (suc n) [] = ⊥
AreApartFrom bounds sg low (suc n) (x ∷ gaps) =
    (least_tg ≤ x) × (low ≤ least_time bounds x) × AreApartFrom bounds sg (next_low bounds sg x) n gaps

abbrev pub AreApart : Bounds → ℕ → ℕ → List ℕ → Type 0
AreApart bounds count sg gaps = AreApartFrom bounds sg (first_low bounds sg (count == 1)) count gaps

-- Each of these gaps is over before another's synchronization gap.
abbrev pub AllWait : Bounds → ℕ → Bool → List ℕ → Type 0
AllWait bounds sg alone [] = Unit {0}
AllWait bounds sg alone (x ∷ gaps) = Waits bounds sg alone x × AllWait bounds sg alone gaps

-- With the message behind it and the synchronization gap before it each outlasts the least transmit interval.
abbrev pub AllOutlast : Bounds → ℕ → List Speaker → List ℕ → Type 0
AllOutlast bounds sg [] gaps = Unit {0}
AllOutlast bounds sg (a ∷ senders) [] = Unit {0}
AllOutlast bounds sg (a ∷ senders) (x ∷ gaps) =
    (most_time bounds least_ti ≤ least_time bounds a.shortest + least_time bounds sg + most_time bounds x) × AllOutlast bounds sg senders gaps

-- Within their limits, and of each group.
pub record KeepGroups (bounds : Bounds) (senders : List Speaker) (sg : ℕ) (gaps : List ℕ) : Type 0 where
  pub whole : IsWhole bounds sg
  pub apart : AreApart bounds (length senders) sg gaps
  pub waiting : AllWait bounds sg (length senders == 1) gaps
  pub outlasting : AllOutlast bounds sg senders gaps
  pub most : sg ≤ most_sg
  pub few : (k : ℕ) → get_or gaps k 0 ≤ most_tg

-- All groups together are all rules.
abbrev pub RoomyKeepsGroups : Type 0
RoomyKeepsGroups =
    (bounds : Bounds) (senders : List Speaker) (sg : ℕ) (gaps : List ℕ) → AreRoomy bounds senders sg gaps ↔ KeepGroups bounds senders sg gaps
