-- Stretches that meet or touch become one.
use Rattle.std.proofs.Common.{◌≡◌, ℕ, suc, ◌+◌, ◌<◌, ◌≤◌, Bool, true, false, ◌&&◌, ◌||◌, ltb, leb, max, List, [], ◌∷◌, ◌++◌, length, take, set}
use Rattle.std.proofs.Common.{get_or, inl, inr, arith, sym, refl, ap, ◌∙◌, subst, add-one}
use Rattle.std.specs.List.{All, AllAdjacentBelow, AllByRecursion}
use Rattle.std.proofs.lemmas.Bool.{cases_lt, lt-ltb, le-ltb, le-leb, lt-leb}
use Rattle.std.proofs.lemmas.List.{set_split, take_all, take_more}
use Rattle.std.proofs.lemmas.List.Elements.{All-head, All-tail}
use Rattle.std.proofs.lemmas.List.Folds.{list_any-append}
use Rattle.std.proofs.Math.ListN.{drop_of_length-le}
use Rattle.bus_load.specs.Loads.{Stretch, AreApart, has, is_within}

-- one bit time of two stretches of which the second begins in the first or at its end
pub has_both : (t lf lt mf mt : ℕ) → lf ≤ mf → mf ≤ lt → (leb lf t && ltb t (max lt mt)) ≡ ((leb lf t && ltb t lt) || (leb mf t && ltb t mt))
has_both t lf lt mf mt h k =
    elim (cases_lt t lf) [
      | inl before ↦ rw (lt-leb lf t before, lt-leb mf t (let e : t < mf = omega arith in e)) refl
      | inr begun ↦ elim (cases_lt t lt) [
        | inl first ↦ rw (le-leb lf t begun, lt-ltb t lt first, lt-ltb t (max lt mt) (let e : t < max lt mt = omega arith in e)) refl
        | inr behind ↦ elim (cases_lt t mt) [
          | inl second ↦ rw (
            le-leb lf t begun,
            le-ltb t lt behind,
            le-leb mf t (let e : mf ≤ t = omega arith in e),
            lt-ltb t mt second,
            lt-ltb t (max lt mt) (let e : t < max lt mt = omega arith in e),
          ) refl
          | inr past ↦ rw (
            le-leb lf t begun,
            le-ltb t lt behind,
            le-leb mf t (let e : mf ≤ t = omega arith in e),
            le-ltb t mt past,
            le-ltb t (max lt mt) (let e : max lt mt ≤ t = omega arith in e),
          ) refl
        ]
      ]
    ]

-- the last of a list, and another one in its place
pub split_last : (xs : List Stretch) (n : ℕ) (last : Stretch) → n + 1 ≡ length xs → last ≡ get_or xs n last → xs ≡ take n xs ++ last ∷ []
split_last xs n last e at =
    sym (take_all (n + 1) xs (omega arith)) ∙ take_more xs n last (omega arith) ∙ ap (λ s. take n xs ++ s ∷ []) (sym at)

pub set_last : (xs : List Stretch) (n : ℕ) (other : Stretch) → n + 1 ≡ length xs → set xs n other ≡ take n xs ++ other ∷ []
set_last xs n other e =
    set_split xs n other (omega arith) ∙ ap (λ rest. take n xs ++ other ∷ rest) (drop_of_length-le xs {i = suc n} (omega arith))

or_joined : (a b c d : Bool) → d ≡ (b || c) → (a || (d || false)) ≡ ((a || (b || false)) || c)
or_joined true b c d e = refl
or_joined false true c d e = ap (λ x. x || false) e
or_joined false false true d e = ap (λ x. x || false) e
or_joined false false false d e = ap (λ x. x || false) e

-- what a longer last one has
pub within_longer : (xs : List Stretch) (n : ℕ) (last more longer : Stretch) → n + 1 ≡ length xs → last ≡ get_or xs n last → last.from ≤ more.from
    → more.from ≤ last.to → longer ≡ record { from = last.from; to = max last.to more.to } → (t : ℕ)
    → is_within (set xs n longer) t ≡ (is_within xs t || has t more)
within_longer xs n last more longer e at h k is t =
    ap (λ ys. is_within ys t) (set_last xs n longer e)
    ∙ list_any-append (has t) (take n xs) (longer ∷ [])
    ∙ or_joined (is_within (take n xs) t) (has t last) (has t more) (has t longer)
    (ap (has t) is ∙ has_both t last.from last.to more.from more.to h k)
    ∙ ap (λ b. b || has t more) (sym (list_any-append (has t) (take n xs) (last ∷ [])) ∙ ap (λ ys. is_within ys t) (sym (split_last xs n last e at)))

-- another last one
all_other : (P : Stretch → Type 0) (ss : List Stretch) (last other : Stretch) → P other → AllByRecursion P (ss ++ last ∷ []) → AllByRecursion P (ss ++ other ∷ [])
all_other P [] last other p h = (p, tt)
all_other P (s ∷ ss) last other p h = (h.0, all_other P ss last other p h.1)

all_last : (P : Stretch → Type 0) (ss : List Stretch) (last : Stretch) → AllByRecursion P (ss ++ last ∷ []) → P last
all_last P [] last h = h.0
all_last P (s ∷ ss) last h = all_last P ss last h.1

apart_other : (ss : List Stretch) (last other : Stretch) → last.from ≡ other.from → last.to ≤ other.to → AreApart (ss ++ last ∷ []) → AreApart (ss ++ other ∷ [])
apart_other [] last other e k h = let some : last.from < last.to = h.0 in (omega arith, tt, tt)
apart_other (s ∷ ss) last other e k h =
    let before : s.to < last.from = all_last (λ (next : Stretch). s.to < next.from) ss last h.1 in
    (h.0, all_other (λ (next : Stretch). s.to < next.from) ss last other (omega arith) h.1, apart_other ss last other e k h.2)

pub apart_longer : (xs : List Stretch) (n : ℕ) (last longer : Stretch) → n + 1 ≡ length xs → last ≡ get_or xs n last → last.from ≡ longer.from
    → last.to ≤ longer.to → AreApart xs → AreApart (set xs n longer)
apart_longer xs n last longer e at from to h =
    subst AreApart (sym (set_last xs n longer e)) (apart_other (take n xs) last longer from to (subst AreApart (split_last xs n last e at) h))

apart_some : (ss : List Stretch) (last : Stretch) → AreApart (ss ++ last ∷ []) → last.from < last.to
apart_some [] last h = h.0
apart_some (s ∷ ss) last h = apart_some ss last h.2

-- one more, behind the end of the last
all_push : (P : Stretch → Type 0) (ss : List Stretch) (more : Stretch) → AllByRecursion P ss → P more → AllByRecursion P (ss ++ more ∷ [])
all_push P [] more h p = (p, tt)
all_push P (s ∷ ss) more h p = (h.0, all_push P ss more h.1 p)

apart_push : (ss : List Stretch) (more : Stretch) → more.from < more.to → AllByRecursion (λ (s : Stretch). s.to < more.from) ss → AreApart ss → AreApart (ss ++ more ∷ [])
apart_push [] more some before h = (some, tt, tt)
apart_push (s ∷ ss) more some before h = (h.0, all_push (λ (next : Stretch). s.to < next.from) ss more h.1 before.0, apart_push ss more some before.1 h.2)

all_before : (ss : List Stretch) (last : Stretch) (m : ℕ) → last.to < m → AreApart (ss ++ last ∷ []) → AllByRecursion (λ (s : Stretch). s.to < m) (ss ++ last ∷ [])
all_before [] last m k h = (k, tt)
all_before (s ∷ ss) last m k h =
    let before : s.to < last.from = all_last (λ (next : Stretch). s.to < next.from) ss last h.1 in
    let some : last.from < last.to = apart_some ss last h.2 in
    (omega arith, all_before ss last m k h.2)

pub apart_first : (more : Stretch) (xs : List Stretch) → length xs ≡ 0 → more.from < more.to → AreApart (xs ++ more ∷ [])
apart_first more [] e some = (some, tt, tt)
apart_first more (x ∷ xs) e some = absurd (omega arith)

pub apart_more : (xs : List Stretch) (n : ℕ) (last more : Stretch) → n + 1 ≡ length xs → last ≡ get_or xs n last → last.to < more.from
    → more.from < more.to → AreApart xs → AreApart (xs ++ more ∷ [])
apart_more xs n last more e at before some h =
    let is : xs ≡ take n xs ++ last ∷ [] = split_last xs n last e at in
    apart_push xs more some (subst (AllByRecursion (λ (s : Stretch). s.to < more.from)) (sym is)
    (all_before (take n xs) last more.from before (subst AreApart is h))) h

-- stretches of which each ends before the next
all_weaker : (m n : ℕ) → n ≤ m → (ss : List Stretch) → AllByRecursion (λ (next : Stretch). m < next.from) ss → AllByRecursion (λ (next : Stretch). n < next.from) ss
all_weaker m n k [] h = tt
all_weaker m n k (s ∷ ss) h = let one : m < s.from = h.0 in (omega arith, all_weaker m n k ss h.1)

steps_behind : (s : Stretch) (ss : List Stretch) → AllAdjacentBelow (λ (x y : Stretch). x.to < y.from) (s ∷ ss) (length (s ∷ ss))
    → (k : ℕ) (d : Stretch) → k + 1 < length ss → (get_or ss k d).to < (get_or ss (suc k) d).from
steps_behind s ss steps k d h =
    subst (λ n. (get_or ss k d).to < (get_or (s ∷ ss) n d).from) (add-one (suc k)) (steps (suc k) d (omega arith))

pub apart_by_steps : (ss : List Stretch) → All (λ (s : Stretch). s.from < s.to) ss → AllAdjacentBelow (λ (x y : Stretch). x.to < y.from) ss (length ss) → AreApart ss
apart_by_steps [] some steps = tt
apart_by_steps (s ∷ []) some steps = (All-head (λ (s : Stretch). s.from < s.to) s [] some, tt, tt)
apart_by_steps (s ∷ (next ∷ ss)) some steps =
    let rest : AreApart (next ∷ ss) = apart_by_steps (next ∷ ss) (All-tail (λ (s : Stretch). s.from < s.to) s (next ∷ ss) some)
    (λ k d h. subst (λ n. (get_or (next ∷ ss) k d).to < (get_or (next ∷ ss) n d).from) (sym (add-one k)) (steps_behind s (next ∷ ss) steps k d h)) in
    let first : s.to < next.from = steps 0 s (omega arith) in
    let one : next.from < next.to = rest.0 in
    (All-head (λ (s : Stretch). s.from < s.to) s (next ∷ ss) some, (first, all_weaker next.to s.to (omega arith) ss rest.1), rest)
