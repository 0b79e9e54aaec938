-- Gaps in a list: what they have beyond terminal gaps and a delay, what they lack, and which lists bear it. No public clause cites it.
use Rattle.std.specs.Prelude.{ℕ, ◌+◌, ◌-◌, ◌≡◌, ◌≢◌, ◌<◌, ◌≤◌, ◌⊎◌, List, [], ◌∷◌, ◌++◌}
use Rattle.bus_strings.specs.Members.{In}
use Rattle.bus_table.specs.Tables.{Sender}
use Rattle.bus_regime.specs.Gaps.{Gap}
pub use Rattle.bus_cable_plan.specs.Shares.{gaps_hold}

-- No two gaps have senders of the same number.
abbrev pub Apart : List Gap → Type 0
Apart [] = Unit {0}
Apart (g ∷ gs) = ((h : Gap) → In h gs → g.sender.number ≢ h.sender.number) × Apart gs

-- Each gap is its sender's terminal gap and d, at least.
abbrev pub AreWide : ℕ → List Gap → Type 0
AreWide d gaps = (g : Gap) → In g gaps → g.from + (g.sender.tg + d) ≤ g.to

-- What a gap has beyond its sender's terminal gap and d.
abbrev pub excess : ℕ → Gap → ℕ
excess d gap = gap.to - (gap.from + gap.sender.tg + d)

-- What these gaps have beyond that.
abbrev pub total : ℕ → List Gap → ℕ
total d [] = 0
total d (gap ∷ gaps) = excess d gap + total d gaps

-- By how much a sender's terminal gap and d are below a synchronization gap less one.
abbrev pub want : ℕ → ℕ → Sender → ℕ
want d sg sender = sg - (1 + sender.tg + d)

-- By how much those of these gaps are.
abbrev pub wants : ℕ → ℕ → List Gap → ℕ
wants d sg [] = 0
wants d sg (gap ∷ gaps) = want d sg gap.sender + wants d sg gaps

-- Each of these terminal gaps and d are below the synchronization gap.
abbrev pub AreNear : ℕ → ℕ → List Gap → Type 0
AreNear d sg gaps = (g : Gap) → In g gaps → (0 < g.sender.tg) × (g.sender.tg + d < sg)

-- These gaps are longer than synchronization gaps less one, together.
abbrev pub IsUp : ℕ → ℕ → List Gap → Type 0
IsUp d sg gaps = 1 + wants d sg gaps ≤ total d gaps

-- And by more than d.
abbrev pub IsStrong : ℕ → ℕ → List Gap → Type 0
IsStrong d sg gaps = 1 + d + wants d sg gaps ≤ total d gaps

-- Each end of these gaps is longer so.
abbrev pub HasUpEnds : ℕ → ℕ → List Gap → Type 0
HasUpEnds d sg [] = Unit {0}
HasUpEnds d sg (gap ∷ gaps) = IsUp d sg (gap ∷ gaps) × HasUpEnds d sg gaps

-- Gaps of the same senders in the same order, none of the first shorter than that of the second.
abbrev pub AreWider : List Gap → List Gap → Type 0
AreWider [] [] = Unit {0}
AreWider [] (h ∷ hs) = ⊥
AreWider (g ∷ gs) [] = ⊥
AreWider (g ∷ gs) (h ∷ hs) = (g.sender ≡ h.sender) × (h.to + g.from ≤ g.to + h.from) × AreWider gs hs

-- The gap of the one is right before that of the other, round the end of the list.
abbrev pub IsNext : Gap → Gap → List Gap → Type 0
IsNext f g gaps =
    ((x : List Gap) × (y : List Gap) × (gaps ≡ x ++ f ∷ g ∷ y)) ⊎ ((z : List Gap) × (gaps ≡ g ∷ (z ++ f ∷ [])))

-- These gaps have what a strong gap and a synchronization gap right behind it lack.
pub record IsClose (d sg : ℕ) (gaps : List Gap) : Type 0 where
  pub first : Gap
  pub second : Gap
  pub next : IsNext first second gaps
  pub enough : 2 + d + want d sg first.sender + want d sg second.sender ≤ total d gaps

-- These gaps have what two strong gaps lack.
pub record IsDistant (d sg : ℕ) (gaps : List Gap) : Type 0 where
  pub first : Gap
  pub second : Gap
  pub first_in : In first gaps
  pub second_in : In second gaps
  pub apart : first.sender.number ≢ second.sender.number
  pub enough : 2 + d + d + want d sg first.sender + want d sg second.sender ≤ total d gaps

-- What gaps have that bear a delay: a synchronization gap, or what two long gaps lack, or two more than all want.
abbrev pub HasEnough : ℕ → ℕ → List Gap → Type 0
HasEnough d sg gaps =
    (sg ≤ total d gaps) ⊎ ((2 + wants d sg gaps ≤ total d gaps) ⊎ (IsClose d sg gaps ⊎ IsDistant d sg gaps))
