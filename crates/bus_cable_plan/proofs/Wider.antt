-- What is borne is borne by wider gaps, and for less.
use Rattle.std.proofs.Common.{◌≡◌, ℕ, ◌+◌, ◌-◌, ◌≤◌, true, false, cond, ◌&&◌, min, eqb, List, [], ◌∷◌, ◌++◌, Option, Some, None, inl, inr, arith, sym, refl, ap, ◌∙◌, subst}
use Rattle.std.specs.List.{list_all}
use Rattle.std.proofs.lemmas.Bool.{cases_Bool, and_parts, le-leb, leb-true}
use Rattle.bus_strings.specs.Members.{In}
use Rattle.bus_table.specs.Tables.{Sender}
use Rattle.bus_regime.specs.Gaps.{Gap, has_width}
use Rattle.bus_schedule.specs.Slack.{slack_behind, is_enough, stays, all_stay, is_wide}
use Rattle.bus_cable_plan.specs.inside.Lists.{AreWider, gaps_hold}

abbrev pub IsNoMore : Option ℕ → Option ℕ → Type 0
IsNoMore None t = Unit {0}
IsNoMore (Some a) None = ⊥
IsNoMore (Some a) (Some b) = a ≤ b

behind_no_more : (less d sg : ℕ) (s t : Option ℕ) (g h : Gap) → less ≤ d → IsNoMore s t → h.from ≤ h.to → h.to + g.from ≤ g.to + h.from
    → IsNoMore (slack_behind less sg s g) (slack_behind d sg t h)
behind_no_more less d sg None t g h low most ordered wide = tt
behind_no_more less d sg (Some a) None g h low most ordered wide = absurd most
behind_no_more less d sg (Some a) (Some b) g h low most ordered wide =
    elim (cases_Bool (has_width (b + sg) h)) [
      | inl elapses ↦
          let k : h.from + (b + sg) ≤ h.to = leb-true (h.from + (b + sg)) h.to elapses in
          subst (λ o. IsNoMore o (slack_behind d sg (Some b) h))
          (sym (ap (λ c. cond c None (Some (min less (a + sg - 1 - (g.to - g.from))))) (le-leb (g.from + (a + sg)) g.to (omega (arith, most)))))
          tt
      | inr not ↦
          subst (λ c. IsNoMore (slack_behind less sg (Some a) g) (cond c None (Some (min d (b + sg - 1 - (h.to - h.from)))))) (sym not)
          ((elim (has_width (a + sg) g) as (λ c. IsNoMore (cond c None (Some (min less (a + sg - 1 - (g.to - g.from)))))
          (Some (min d (b + sg - 1 - (h.to - h.from))))) [
            | true ↦ tt
            | false ↦ (let l = most in grind (arith, l))
          ]))
    ]

enough_on : (sg : ℕ) (s t : Option ℕ) (g h : Gap) → IsNoMore s t → g.sender ≡ h.sender → h.to + g.from ≤ g.to + h.from
    → is_enough sg t h ≡ true → is_enough sg s g ≡ true
enough_on sg None t g h most same wide e = refl
enough_on sg (Some a) None g h most same wide e = absurd most
enough_on sg (Some a) (Some b) g h most same wide e =
    let k : h.from + (sg + h.sender.tg + b) ≤ h.to = leb-true (h.from + (sg + h.sender.tg + b)) h.to e in
    let tg : g.sender.tg ≡ h.sender.tg = ap (λ (x : Sender). x.tg) same in
    le-leb (g.from + (sg + g.sender.tg + a)) g.to (omega (arith, k, tg, most, wide))

abbrev pub AreOrdered : List Gap → Type 0
AreOrdered gaps = (g : Gap) → In g gaps → g.from ≤ g.to

stays_on : (less d sg number : ℕ) (s t : Option ℕ) (gs hs : List Gap) → less ≤ d → IsNoMore s t → AreOrdered hs → AreWider gs hs
    → stays d sg number t hs ≡ true → stays less sg number s gs ≡ true
stays_on less d sg number s t [] [] low most ordered wide h = absurd cc
stays_on less d sg number s t [] (y ∷ hs) low most ordered wide h = absurd wide
stays_on less d sg number s t (x ∷ gs) [] low most ordered wide h = absurd wide
stays_on less d sg number s t (x ∷ gs) (y ∷ hs) low most ordered wide h =
    let next : IsNoMore (slack_behind less sg s x) (slack_behind d sg t y) =
    behind_no_more less d sg s t x y low most (ordered y (inl refl)) wide.1 in
    subst (λ (n : ℕ). cond (eqb n number) (is_enough sg s x) (stays less sg number (slack_behind less sg s x) gs) ≡ true)
    (sym (ap (λ (z : Sender). z.number) wide.0))
    ((elim (eqb y.sender.number number) as (λ b. cond b (is_enough sg t y) (stays d sg number (slack_behind d sg t y) hs) ≡ true
    → cond b (is_enough sg s x) (stays less sg number (slack_behind less sg s x) gs) ≡ true) [
      | true ↦ λ k. enough_on sg s t x y most wide.0 wide.1 k
      | false ↦ λ k. stays_on less d sg number (slack_behind less sg s x) (slack_behind d sg t y) gs hs low next (λ g i. ordered g (inr i)) wide.2 k
    ]) h)

wider_append : (xs ys us vs : List Gap) → AreWider xs ys → AreWider us vs → AreWider (xs ++ us) (ys ++ vs)
wider_append [] [] us vs p q = q
wider_append [] (y ∷ ys) us vs p q = absurd p
wider_append (x ∷ xs) [] us vs p q = absurd p
wider_append (x ∷ xs) (y ∷ ys) us vs p q = (p.0, p.1, wider_append xs ys us vs p.2 q)

ordered_append : (xs ys : List Gap) → AreOrdered xs → AreOrdered ys → AreOrdered (xs ++ ys)
ordered_append [] ys p q = q
ordered_append (x ∷ xs) ys p q =
    λ g i. elim i [ inl e ↦ p g (inl e) | inr j ↦ ordered_append xs ys (λ z k. p z (inr k)) q g j ]

all_stay_on : (less d sg : ℕ) (before_on before gs hs : List Gap) → less ≤ d → AreOrdered before → AreOrdered hs → AreWider before_on before
    → AreWider gs hs → all_stay d sg before hs ≡ true → all_stay less sg before_on gs ≡ true
all_stay_on less d sg xs ys [] [] low ord ordered wb wide h = refl
all_stay_on less d sg xs ys [] (y ∷ hs) low ord ordered wb wide h = absurd wide
all_stay_on less d sg xs ys (x ∷ gs) [] low ord ordered wb wide h = absurd wide
all_stay_on less d sg xs ys (x ∷ gs) (y ∷ hs) low ord ordered wb wide h =
    let parts = and_parts _ _ h in
    let one_wide : AreWider (x ∷ []) (y ∷ []) = (wide.0, wide.1, tt) in
    let one_ordered : AreOrdered (y ∷ []) = λ g i. elim i [ inl e ↦ ordered g (inl e) | inr none ↦ absurd none ] in
    let wb2 = wider_append xs ys (x ∷ []) (y ∷ []) wb one_wide in
    let ob2 = ordered_append ys (y ∷ []) ord one_ordered in
    let there = stays_on less d sg y.sender.number (Some 0) (Some 0) (gs ++ (xs ++ x ∷ [])) (hs ++ (ys ++ y ∷ [])) low (omega arith)
    (ordered_append hs (ys ++ y ∷ []) (λ g i. ordered g (inr i)) ob2) (wider_append gs hs (xs ++ x ∷ []) (ys ++ y ∷ []) wide.2 wb2) parts.0 in
    let here : stays less sg x.sender.number (Some 0) (gs ++ (xs ++ x ∷ [])) ≡ true =
    subst (λ (n : ℕ). stays less sg n (Some 0) (gs ++ (xs ++ x ∷ [])) ≡ true) (sym (ap (λ (z : Sender). z.number) wide.0)) there in
    ap (λ v. v && all_stay less sg (xs ++ x ∷ []) gs) here
    ∙ all_stay_on less d sg (xs ++ x ∷ []) (ys ++ y ∷ []) gs hs low ob2 (λ g i. ordered g (inr i)) wb2 wide.2 parts.1

wide_on : (less d : ℕ) (gs hs : List Gap) → less ≤ d → AreWider gs hs → list_all (is_wide d) hs ≡ true → list_all (is_wide less) gs ≡ true
wide_on less d [] [] low wide h = refl
wide_on less d [] (y ∷ hs) low wide h = absurd wide
wide_on less d (x ∷ gs) [] low wide h = absurd wide
wide_on less d (x ∷ gs) (y ∷ hs) low wide h =
    let parts = and_parts _ _ h in
    let k : y.from + (y.sender.tg + d) ≤ y.to = leb-true (y.from + (y.sender.tg + d)) y.to parts.0 in
    let tg : x.sender.tg ≡ y.sender.tg = ap (λ (z : Sender). z.tg) wide.0 in
    let w = wide.1 in
    ap (λ v. v && list_all (is_wide less) gs) (le-leb (x.from + (x.sender.tg + less)) x.to (omega (arith, k, tg, w, low)))
    ∙ wide_on less d gs hs low wide.2 parts.1

ordered_of : (d : ℕ) (hs : List Gap) → list_all (is_wide d) hs ≡ true → AreOrdered hs
ordered_of d [] h g i = absurd i
ordered_of d (y ∷ hs) h g (inl e) =
    let k : y.from + (y.sender.tg + d) ≤ y.to = leb-true (y.from + (y.sender.tg + d)) y.to (and_parts _ _ h).0 in
    subst (λ (z : Gap). z.from ≤ z.to) (sym e) (let w : y.from ≤ y.to = omega arith in w)
ordered_of d (y ∷ hs) h g (inr i) = ordered_of d hs (and_parts _ _ h).1 g i

pub wider_bear : (less d sg : ℕ) (gs hs : List Gap) → less ≤ d → AreWider gs hs → gaps_hold d sg hs ≡ true → gaps_hold less sg gs ≡ true
wider_bear less d sg gs hs low wide h =
    let parts = and_parts _ _ h in
    ap (λ v. v && all_stay less sg [] gs) (wide_on less d gs hs low wide parts.0)
    ∙ all_stay_on less d sg [] [] gs hs low (λ g i. absurd i) (ordered_of d hs parts.0) tt wide parts.1

pub wider_same : (gs : List Gap) → AreWider gs gs
wider_same [] = tt
wider_same (g ∷ gs) = (refl, (let k : g.to + g.from ≤ g.to + g.from = omega arith in k), wider_same gs)
