-- Senders in an order, round its end, and the gaps before them. No public clause cites it.
use Rattle.std.specs.Prelude.{◌≡◌, ◌≤◌, ◌<◌, ◌⊎◌, List, [], ◌∷◌, ◌++◌}
use Rattle.bus_strings.specs.Members.{In}
use Rattle.bus_table.specs.Tables.{Sender}
use Rattle.bus_regime.specs.Gaps.{Gap}
use Rattle.bus_cable_plan.specs.Shapes.{Pair}

-- What a sender of a valid table has.
pub record IsModest (s : Sender) : Type 0 where
  pub number_most : s.number ≤ 128
  pub tg_least : 0 < s.tg
  pub tg_most : s.tg ≤ 256

abbrev pub AreModest : List Sender → Type 0
AreModest ss = (s : Sender) → In s ss → IsModest s

-- These are gaps before senders with the terminal gaps and numbers of these, one for each, in order.
abbrev pub AreOf : List Gap → List Sender → Type 0
AreOf [] [] = Unit {0}
AreOf [] (s ∷ ss) = ⊥
AreOf (g ∷ gs) [] = ⊥
AreOf (g ∷ gs) (s ∷ ss) = (g.sender.tg ≡ s.tg) × (g.sender.number ≡ s.number) × AreOf gs ss

-- The one stands right before the other, round the end.
abbrev pub IsBefore : Sender → Sender → List Sender → Type 0
IsBefore f g order =
    ((x : List Sender) × (y : List Sender) × (order ≡ x ++ f ∷ g ∷ y)) ⊎ ((z : List Sender) × (order ≡ g ∷ (z ++ f ∷ [])))

-- A pair of neighbours of this order.
pub record IsPairOf (order : List Sender) (pair : Pair) : Type 0 where
  pub first : Sender
  pub second : Sender
  pub next : IsBefore first second order
  pub before_is : pair.before ≡ first.tg
  pub behind_is : pair.behind ≡ second.tg
