-- Two ways to split a list, and what parts of a list of gaps have.
use Rattle.std.proofs.Common.{◌≡◌, ℕ, ◌+◌, List, [], ◌∷◌, ◌++◌, ◌⊎◌, inl, inr, arith, sym, refl, ap, ◌∙◌}
use Rattle.bus_strings.specs.Members.{In}
use Rattle.bus_regime.specs.Gaps.{Gap}
use Rattle.bus_cable_plan.specs.inside.Lists.{total, wants}

abbrev head_or : {A : Type 0} → A → List A → A
head_or x [] = x
head_or x (y ∷ l) = y

abbrev tail_of : {A : Type 0} → List A → List A
tail_of [] = []
tail_of (y ∷ l) = l

pub heads_same : {A : Type 0} (x y : A) (l m : List A) → x ∷ l ≡ y ∷ m → x ≡ y
heads_same x y l m e = ap (head_or x) e

pub tails_same : {A : Type 0} (x y : A) (l m : List A) → x ∷ l ≡ y ∷ m → l ≡ m
tails_same x y l m e = ap tail_of e

-- either the first part of the one ends within that of the other, or the other way round
pub append_cases : {A : Type 0} (u v a b : List A) → u ++ v ≡ a ++ b
    → ((w : List A) × (a ≡ u ++ w) × (v ≡ w ++ b)) ⊎ ((w : List A) × (u ≡ a ++ w) × (b ≡ w ++ v))
append_cases [] v a b e = inl (a, refl, e)
append_cases (x ∷ u) v [] b e = inr (x ∷ u, refl, sym e)
append_cases (x ∷ u) v (y ∷ a) b e =
    let head = heads_same x y (u ++ v) (a ++ b) e in
    let tail = tails_same x y (u ++ v) (a ++ b) e in
    elim (append_cases u v a b tail) [
      | inl k ↦ inl (k.0, ap (λ l. y ∷ l) k.1 ∙ ap (λ z. z ∷ (u ++ k.0)) (sym head), k.2)
      | inr k ↦ inr (k.0, ap (λ l. x ∷ l) k.1 ∙ ap (λ z. z ∷ (a ++ k.0)) head, k.2)
    ]

pub in_left : (xs ys : List Gap) (x : Gap) → In x xs → In x (xs ++ ys)
in_left [] ys x h = absurd h
in_left (y ∷ xs) ys x (inl same) = inl same
in_left (y ∷ xs) ys x (inr h) = inr (in_left xs ys x h)

pub in_right : (xs ys : List Gap) (x : Gap) → In x ys → In x (xs ++ ys)
in_right [] ys x h = h
in_right (y ∷ xs) ys x h = inr (in_right xs ys x h)

pub in_cases : (xs ys : List Gap) (x : Gap) → In x (xs ++ ys) → In x xs ⊎ In x ys
in_cases [] ys x h = inr h
in_cases (y ∷ xs) ys x (inl same) = inl (inl same)
in_cases (y ∷ xs) ys x (inr h) = elim (in_cases xs ys x h) [ inl l ↦ inl (inr l) | inr r ↦ inr r ]

-- the gaps of a list turned round are the same
pub in_turned : (xs ys : List Gap) (x : Gap) → In x (xs ++ ys) → In x (ys ++ xs)
in_turned xs ys x i = elim (in_cases xs ys x i) [ inl l ↦ in_right ys xs x l | inr r ↦ in_left ys xs x r ]

pub in_split : (g : Gap) (gaps : List Gap) → In g gaps → (ahead : List Gap) × (behind : List Gap) × (gaps ≡ ahead ++ g ∷ behind)
in_split g [] i = absurd i
in_split g (x ∷ gaps) (inl e) = ([], gaps, ap (λ y. y ∷ gaps) (sym e))
in_split g (x ∷ gaps) (inr i) = let w = in_split g gaps i in (x ∷ w.0, w.1, ap (λ ys. x ∷ ys) w.2)

pub total_append : (d : ℕ) (xs ys : List Gap) → total d (xs ++ ys) ≡ total d xs + total d ys
total_append d [] ys = omega arith
total_append d (x ∷ xs) ys = let k = total_append d xs ys in omega (arith, k)

pub wants_append : (d sg : ℕ) (xs ys : List Gap) → wants d sg (xs ++ ys) ≡ wants d sg xs + wants d sg ys
wants_append d sg [] ys = omega arith
wants_append d sg (x ∷ xs) ys = let k = wants_append d sg xs ys in omega (arith, k)
