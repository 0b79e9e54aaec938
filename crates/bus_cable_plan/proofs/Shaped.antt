-- Gaps that are as long as a shape has them bear the delay.
use Rattle.std.proofs.Common.{◌≡◌, ◌≢◌, ℕ, ◌+◌, ◌-◌, ◌≤◌, max, true, false, cond, List, [], ◌∷◌, ◌++◌, inl, inr, arith, refl, sym, ap, ◌∙◌, subst}
use Rattle.std.specs.Prelude.{nat_lt}
use Rattle.std.proofs.lemmas.Bool.{eq-eqb}
use Rattle.bus_strings.specs.Members.{In}
use Rattle.bus_table.specs.Tables.{Sender, Table}
use Rattle.bus_table.specs.Turns.{turn_order}
use Rattle.bus_table.specs.inside.Orders.{Differ}
use Rattle.bus_regime.specs.Gaps.{Gap}
use Rattle.bus_cable_plan.specs.Shapes.{Shape, Pair, added, gap_in, needed, own, neighbours, apart, round, lesser_shape, shape_of, greatest_tg, second_tg, greatest_pair}
use Rattle.bus_cable_plan.specs.inside.Lists.{AreWide, IsNext, gaps_hold}
use Rattle.bus_cable_plan.specs.inside.Orders.{AreOf, IsPairOf}
use Rattle.bus_cable_plan.proofs.Matching.{of_in, of_apart, of_next}
use Rattle.bus_cable_plan.proofs.Upper.{own_gap_bears, strong_gaps_bear, round_bears, neighbours_bear}

added_same : (tg more : ℕ) (s : Sender) → s.tg ≡ tg → added tg more s ≡ more
added_same tg more s e = ap (λ b. cond b more 0) (eq-eqb s.tg tg e)

-- each gap is as long as the shape has it
abbrev pub AreFitted : ℕ → Shape → List Gap → Type 0
AreFitted d shape gs = (g : Gap) → In g gs → g.from + gap_in d shape g.sender ≤ g.to

-- such gaps bear d
abbrev pub Bears : ℕ → ℕ → List Sender → Shape → Type 0
Bears d sg order shape = (gs : List Gap) → AreOf gs order → AreFitted d shape gs → gaps_hold d sg gs ≡ true

fitted_wide : (d : ℕ) (shape : Shape) (gs : List Gap) → AreFitted d shape gs → AreWide d gs
fitted_wide d shape gs fit g i = let k = fit g i in omega (arith, k)

in_next : (f g : Gap) (gs : List Gap) → IsNext f g gs → In g gs
in_next f g gs (inl n) = subst (λ l. In g l) (sym n.2) (there n.0) where
  there : (l : List Gap) → In g (l ++ f ∷ g ∷ n.1)
  there [] = inr (inl refl)
  there (z ∷ l) = inr (there l)
in_next f g gs (inr n) = subst (λ l. In g l) (sym n.1) (inl refl)

module _ (d sg : ℕ) (order : List Sender) (differ : Differ (λ s. s.number) order) where
  own_bears : (s : Sender) (first : ℕ) → In s order → s.tg ≡ first → Bears d sg order (own sg first)
  own_bears s first i is gs of fit =
      let w = of_in gs order of s i in
      let g : Gap = w.0 in
      let k = fit g w.1 in
      let more = added_same first sg g.sender (w.2 ∙ is) in
      own_gap_bears d sg gs g (of_apart gs order of differ) (fitted_wide d (own sg first) gs fit) w.1 (omega (arith, k, more))

  neighbours_bears : (pair : Pair) → IsPairOf order pair → Bears d sg order (neighbours d sg pair)
  neighbours_bears pair p gs of fit =
      let n = of_next gs order of p.first p.second p.next in
      let one = fit n.first n.first_in in
      let two = fit n.second (in_next n.first n.second gs n.next) in
      let first : n.first.sender.tg ≡ pair.before = n.first_tg ∙ sym p.before_is in
      let second : n.second.sender.tg ≡ pair.behind = n.second_tg ∙ sym p.behind_is in
      let more = added_same pair.before (sg - pair.before) n.first.sender first in
      let long = added_same pair.behind (sg - (pair.behind + d)) n.second.sender second in
      neighbours_bear d sg gs n.first n.second (of_apart gs order of differ) (fitted_wide d (neighbours d sg pair) gs fit) n.first_in n.next
      (omega (arith, one, more, first)) (omega (arith, two, long, second))

  apart_bears : (s t : Sender) (first second : ℕ) → In s order → In t order → s.number ≢ t.number → s.tg ≡ first → t.tg ≡ second
      → Bears d sg order (apart sg first second)
  apart_bears s t first second i j differs is also gs of fit =
      let w = of_in gs order of s i in
      let v = of_in gs order of t j in
      let one = fit w.0 w.1 in
      let two = fit v.0 v.1 in
      let one_tg : w.0.sender.tg ≡ first = w.2 ∙ is in
      let two_tg : v.0.sender.tg ≡ second = v.2 ∙ also in
      let one_more = added_same first (sg - first) w.0.sender one_tg in
      let two_more = added_same second (sg - second) v.0.sender two_tg in
      strong_gaps_bear d sg gs w.0 v.0 (of_apart gs order of differ) (fitted_wide d (apart sg first second) gs fit) w.1 v.1
      (λ same. differs (sym w.3 ∙ same ∙ v.3)) (omega (arith, one, one_more, one_tg)) (omega (arith, two, two_more, two_tg))

  round_bear : (s t : Sender) (first second : ℕ) → In s order → In t order → s.number ≢ t.number → s.tg ≡ first → t.tg ≡ second
      → Bears d sg order (round d sg first second)
  round_bear s t first second i j differs is also gs of fit =
      let w = of_in gs order of s i in
      let v = of_in gs order of t j in
      let one = fit w.0 w.1 in
      let two = fit v.0 v.1 in
      let one_tg : w.0.sender.tg ≡ first = w.2 ∙ is in
      let two_tg : v.0.sender.tg ≡ second = v.2 ∙ also in
      let one_more = added_same first (sg - max (sg - 1) (first + d)) w.0.sender one_tg in
      let two_more = added_same second (sg - max (sg - 1) (second + d)) v.0.sender two_tg in
      round_bears d sg gs w.0 v.0 (of_apart gs order of differ) (fitted_wide d (round d sg first second) gs fit) w.1 v.1
      (λ same. differs (sym w.3 ∙ same ∙ v.3)) (λ g k. (let low = fit g k in omega (arith, low)))
      (omega (arith, one, one_more, one_tg)) (omega (arith, two, two_more, two_tg))

lesser_is : (P : Shape → Type 0) (d : ℕ) (ss : List Sender) (a b : Shape) → P a → P b → P (lesser_shape d ss a b)
lesser_is P d ss a b p q = elim (nat_lt (needed d b ss) (needed d a ss)) as (λ w. P (cond w b a)) [ true ↦ q | false ↦ p ]

pub shape_bears : (d : ℕ) (table : Table) → Differ (λ s. s.number) (turn_order table) → IsPairOf (turn_order table) (greatest_pair (turn_order table))
    → (s t : Sender) → In s (turn_order table) → In t (turn_order table) → s.number ≢ t.number
    → s.tg ≡ greatest_tg table.senders → t.tg ≡ second_tg table.senders
    → Bears d table.sg (turn_order table) (shape_of d table)
shape_bears d table differ pair s t i j differs is also =
    let order : List Sender = turn_order table in
    let first : ℕ = greatest_tg table.senders in
    let second : ℕ = second_tg table.senders in
    let P : Shape → Type 0 = Bears d table.sg order in
    let one : Shape = lesser_shape d table.senders (own table.sg first) (neighbours d table.sg (greatest_pair order)) in
    let two : Shape = lesser_shape d table.senders one (apart table.sg first second) in
    lesser_is P d table.senders two (round d table.sg first second)
    (lesser_is P d table.senders one (apart table.sg first second)
    (lesser_is P d table.senders (own table.sg first) (neighbours d table.sg (greatest_pair order))
    (own_bears d table.sg order differ s first i is) (neighbours_bears d table.sg order differ (greatest_pair order) pair))
    (apart_bears d table.sg order differ s t first second i j differs is also))
    (round_bear d table.sg order differ s t first second i j differs is also)
