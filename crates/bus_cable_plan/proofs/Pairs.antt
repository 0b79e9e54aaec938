-- The pair of neighbours with the greatest terminal gaps is one of the order, and no other has greater ones.
use Rattle.std.proofs.Common.{◌≡◌, ℕ, ◌+◌, ◌<◌, ◌≤◌, true, false, cond, List, [], ◌∷◌, ◌++◌, ◌⊎◌, inl, inr, arith, refl, sym, ap, ◌∙◌, subst}
use Rattle.std.specs.Prelude.{nat_lt}
use Rattle.std.proofs.lemmas.Bool.Decides.{nat_tests}
use Rattle.std.proofs.lemmas.Bool.{lt-ltb}
use Rattle.std.proofs.lemmas.List.{append_assoc}
use Rattle.bus_table.specs.Tables.{Sender}
use Rattle.bus_cable_plan.specs.Shapes.{Pair, greater_pair, pair_from, greatest_pair}
use Rattle.bus_cable_plan.specs.inside.Orders.{IsBefore, IsPairOf}
use Rattle.bus_cable_plan.proofs.Splits.{heads_same, tails_same}

abbrev pub both : Pair → ℕ
both p = p.before + p.behind

greater_both : (a b : Pair) → (both a ≤ both (greater_pair a b)) × (both b ≤ both (greater_pair a b))
greater_both a b =
    (elim (nat_lt (both a) (both b)) as (λ w. nat_lt (both a) (both b) ≡ w → (both a ≤ both (cond w b a)) × (both b ≤ both (cond w b a))) [
      | true ↦ λ h. (let k : both a < both b = grind (arith, nat_tests, h) in (omega (arith, k), omega arith))
      | false ↦ λ h. (let k : both b ≤ both a = grind (arith, nat_tests, h) in (omega arith, omega (arith, k)))
    ]) refl

greater_cases : (a b : Pair) → (greater_pair a b ≡ a) ⊎ (greater_pair a b ≡ b)
greater_cases a b = elim (nat_lt (both a) (both b)) as (λ w. (cond w b a ≡ a) ⊎ (cond w b a ≡ b)) [ true ↦ inr refl | false ↦ inl refl ]

-- ---- it is a pair of the order
pair_is : (whole : List Sender) (h : Sender) (x : List Sender) (prev : Sender) (order : List Sender) (best : Pair)
    → whole ≡ h ∷ (x ++ prev ∷ order) → IsPairOf whole best → IsPairOf whole (pair_from best h.tg prev.tg order)
pair_is whole h x prev [] best is p = elim (greater_cases best (record { before = prev.tg; behind = h.tg })) [
  | inl e ↦ subst (IsPairOf whole) (sym e) p
  | inr e ↦ subst (IsPairOf whole) (sym e) (record { first = prev; second = h; next = inr (x, is); before_is = refl; behind_is = refl })
]
pair_is whole h x prev (s ∷ order) best is p =
    let next : Pair = record { before = prev.tg; behind = s.tg } in
    let mine : IsPairOf whole next =
    record { first = prev; second = s; next = inl (h ∷ x, order, is); before_is = refl; behind_is = refl } in
    let chosen : IsPairOf whole (greater_pair best next) = elim (greater_cases best next) [
      | inl e ↦ subst (IsPairOf whole) (sym e) p
      | inr e ↦ subst (IsPairOf whole) (sym e) mine
    ] in
    pair_is whole h (x ++ prev ∷ []) s order (greater_pair best next)
    (is ∙ ap (λ l. h ∷ l) (sym (append_assoc x (prev ∷ []) (s ∷ order)))) chosen

pub greatest_is_pair : (a b : Sender) (others : List Sender) → 0 < a.tg → IsPairOf (a ∷ b ∷ others) (greatest_pair (a ∷ b ∷ others))
greatest_is_pair a b others some =
    let none : Pair = record { before = 0; behind = 0 } in
    let first : Pair = record { before = a.tg; behind = b.tg } in
    let first_is : greater_pair none first ≡ first = ap (λ w. cond w first none) (lt-ltb (0 + 0) (a.tg + b.tg) (omega (arith, some))) in
    subst (λ p. IsPairOf (a ∷ b ∷ others) (pair_from p a.tg b.tg others)) (sym first_is)
    (pair_is (a ∷ b ∷ others) a [] b others first refl
    (record { first = a; second = b; next = inl ([], others, refl); before_is = refl; behind_is = refl }))

-- ---- none is greater
from_best : (first before : ℕ) (order : List Sender) (best : Pair) → both best ≤ both (pair_from best first before order)
from_best first before [] best = (greater_both best (record { before = before; behind = first })).0
from_best first before (s ∷ order) best =
    let one = (greater_both best (record { before = before; behind = s.tg })).0 in
    let rest = from_best first s.tg order (greater_pair best (record { before = before; behind = s.tg })) in
    omega (arith, one, rest)

one_not_two : (x : List Sender) (a f g : Sender) (y : List Sender) → a ∷ [] ≡ x ++ f ∷ g ∷ y → ⊥
one_not_two [] a f g y e = not_nil (tails_same a f [] (g ∷ y) e) where
  not_nil : [] ≡ g ∷ y → ⊥
  not_nil h = absurd cc
one_not_two (z ∷ x) a f g y e = not_nil x (tails_same a z [] (x ++ f ∷ g ∷ y) e) where
  not_nil : (x : List Sender) → [] ≡ x ++ f ∷ g ∷ y → ⊥
  not_nil [] h = absurd cc
  not_nil (w ∷ x) h = absurd cc

one_last : (z : List Sender) (a f : Sender) → a ∷ [] ≡ z ++ f ∷ [] → a ≡ f
one_last [] a f e = heads_same a f [] [] e
one_last (y ∷ z) a f e = absurd (not_nil z (tails_same a y [] (z ++ f ∷ []) e)) where
  not_nil : (z : List Sender) → [] ≡ z ++ f ∷ [] → ⊥
  not_nil [] h = absurd cc
  not_nil (w ∷ z) h = absurd cc

pair_most : (first : ℕ) (prev : Sender) (order : List Sender) (best : Pair) (f g : Sender) (x y : List Sender)
    → prev ∷ order ≡ x ++ f ∷ g ∷ y → f.tg + g.tg ≤ both (pair_from best first prev.tg order)
pair_most first prev [] best f g x y e = absurd (one_not_two x prev f g y e)
pair_most first prev (s ∷ order) best f g [] y e =
    let one : prev.tg ≡ f.tg = ap (λ (z : Sender). z.tg) (heads_same prev f (s ∷ order) (g ∷ y) e) in
    let two : s.tg ≡ g.tg = ap (λ (z : Sender). z.tg) (heads_same s g order y (tails_same prev f (s ∷ order) (g ∷ y) e)) in
    let next : Pair = record { before = prev.tg; behind = s.tg } in
    let mine = (greater_both best next).1 in
    let rest = from_best first s.tg order (greater_pair best next) in
    omega (arith, one, two, mine, rest)
pair_most first prev (s ∷ order) best f g (z ∷ x) y e =
    pair_most first s order (greater_pair best (record { before = prev.tg; behind = s.tg })) f g x y
    (tails_same prev z (s ∷ order) (x ++ f ∷ g ∷ y) e)

pair_round : (first : ℕ) (prev : Sender) (order : List Sender) (best : Pair) (f : Sender) (z : List Sender)
    → prev ∷ order ≡ z ++ f ∷ [] → f.tg + first ≤ both (pair_from best first prev.tg order)
pair_round first prev [] best f z e =
    let same : prev.tg ≡ f.tg = ap (λ (s : Sender). s.tg) (one_last z prev f e) in
    let mine = (greater_both best (record { before = prev.tg; behind = first })).1 in
    omega (arith, same, mine)
pair_round first prev (s ∷ order) best f [] e = absurd (not_nil (tails_same prev f (s ∷ order) [] e)) where
  not_nil : s ∷ order ≡ [] → ⊥
  not_nil h = absurd cc
pair_round first prev (s ∷ order) best f (y ∷ z) e =
    pair_round first s order (greater_pair best (record { before = prev.tg; behind = s.tg })) f z (tails_same prev y (s ∷ order) (z ++ f ∷ []) e)

pub greatest_is_most : (order : List Sender) (f g : Sender) → IsBefore f g order → f.tg + g.tg ≤ both (greatest_pair order)
greatest_is_most [] f g (inl n) = absurd (none n.0 n.2) where
  none : (x : List Sender) → [] ≡ x ++ f ∷ g ∷ n.1 → ⊥
  none [] h = absurd cc
  none (z ∷ x) h = absurd cc
greatest_is_most [] f g (inr n) = absurd (none n.1) where
  none : [] ≡ g ∷ (n.0 ++ f ∷ []) → ⊥
  none h = absurd cc
greatest_is_most (a ∷ order) f g (inl n) = pair_most a.tg a order (record { before = 0; behind = 0 }) f g n.0 n.1 n.2
greatest_is_most (a ∷ order) f g (inr n) =
    let same : a.tg ≡ g.tg = ap (λ (s : Sender). s.tg) (heads_same a g order (n.0 ++ f ∷ []) n.1) in
    let k = pair_round a.tg a order (record { before = 0; behind = 0 }) f (g ∷ n.0) n.1 in
    omega (arith, same, k)
