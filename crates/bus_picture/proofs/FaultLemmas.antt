-- Which faults are marked, of more and more of a list.
use Rattle.std.proofs.Common.{◌≡◌, ℕ, zero, suc, ◌+◌, Bool, true, false, cond, List, [], ◌∷◌, ◌++◌, map, filter, take, drop, arith, refl, sym, ap, ◌∙◌, Option, Some, None}
use Rattle.std.specs.Prelude.{slice_get}
use Rattle.std.specs.List.{flat_map, zip}
use Rattle.std.specs.Option.{option_and_then, option_to_list}
use Rattle.std.proofs.lemmas.Grind.{flat_map-append}
use Rattle.bus_strings.specs.Messages.{Entry}
use Rattle.bus_findings.specs.declared.judgement.Judgement.{Judgement}
use Rattle.bus_pen.specs.declared.scale.Scale.{Scale}
use Rattle.bus_picture.specs.Faults.{Fault, fault_of, faults, is_marked}
use Rattle.bus_picture.specs.inside.Marking.{marked_at}

nothing_then : {X Z : Type 0} (o : Option X) (g : X → Option Z) → ((x : X) → g x ≡ None) → option_and_then g o ≡ None
nothing_then None g e = refl
nothing_then (Some x) g e = e x

one_kept : {Z : Type 0} (b : Bool) (z : Z) → cond b (z ∷ []) [] ≡ option_to_list (cond b (Some z) None)
one_kept true z = refl
one_kept false z = refl

kept_more : {Z : Type 0} (b : Bool) (z : Z) (ws zs more : List Z) → ws ≡ zs ++ more → cond b (z ∷ ws) ws ≡ cond b (z ∷ zs) zs ++ more
kept_more true z ws zs more e = ap (λ l. z ∷ l) e
kept_more false z ws zs more e = e

zip_none : {X Y : Type 0} (xs : List X) → zip {X = Y} xs [] ≡ []
zip_none [] = refl
zip_none (x ∷ xs) = refl

marked_next : (scale : Scale) (xs : List Entry) (ys : List Judgement) (i : ℕ)
    → faults scale (take (suc i) xs) ys ≡ faults scale (take i xs) ys ++ option_to_list (marked_at scale xs ys i)
marked_next scale [] ys zero = refl
marked_next scale [] ys (suc i) = refl
marked_next scale (x ∷ xs) [] zero = refl
marked_next scale (x ∷ xs) [] (suc i) =
    ap (λ (o : Option Fault). option_to_list o) (sym (nothing_then (slice_get xs i) (λ x. None) (λ x. refl)))
marked_next scale (x ∷ xs) (y ∷ ys) zero = one_kept (is_marked scale (fault_of (x, y))) (fault_of (x, y))
marked_next scale (x ∷ xs) (y ∷ ys) (suc i) =
    kept_more (is_marked scale (fault_of (x, y))) (fault_of (x, y)) _ _ _ (marked_next scale xs ys i)

-- Those of one transmission more.
pub marked_more : (scale : Scale) (xs : List Entry) (ys : List Judgement) (i : ℕ)
    → faults scale (take (i + 1) xs) ys ≡ faults scale (take i xs) ys ++ option_to_list (marked_at scale xs ys i)
marked_more scale xs ys i = ap (λ n. faults scale (take n xs) ys) (let e : i + 1 ≡ suc i = omega arith in e) ∙ marked_next scale xs ys i

-- Those of a front of a list, and those behind.
pub marked_front : (scale : Scale) (xs : List Entry) (ys : List Judgement) (i : ℕ)
    → faults scale xs ys ≡ faults scale (take i xs) ys ++ faults scale (drop i xs) (drop i ys)
marked_front scale xs ys zero = refl
marked_front scale [] ys (suc i) = refl
marked_front scale (x ∷ xs) [] (suc i) =
    ap (λ (l : List (Entry × Judgement)). filter (is_marked scale) (map fault_of l)) (sym (zip_none {Y = Judgement} (drop i xs)))
marked_front scale (x ∷ xs) (y ∷ ys) (suc i) =
    kept_more (is_marked scale (fault_of (x, y))) (fault_of (x, y)) _ _ _ (marked_front scale xs ys i)

-- Something of each of those of one transmission more.
pub text_more : (scale : Scale) (of : Fault → List ℕ) (xs : List Entry) (ys : List Judgement) (i : ℕ)
    → flat_map of (faults scale (take (i + 1) xs) ys)
    ≡ flat_map of (faults scale (take i xs) ys) ++ flat_map of (option_to_list (marked_at scale xs ys i))
text_more scale of xs ys i =
    ap (flat_map of) (marked_more scale xs ys i) ∙ flat_map-append of (faults scale (take i xs) ys) (option_to_list (marked_at scale xs ys i))

-- The first of all is the first that is marked of a front of which no earlier one is.
pub first_is : (scale : Scale) (xs : List Entry) (ys : List Judgement) (i : ℕ) (fault : Fault) → faults scale (take i xs) ys ≡ []
    → marked_at scale xs ys i ≡ Some fault → slice_get (faults scale xs ys) 0 ≡ Some fault
first_is scale xs ys i fault none at =
    let one : faults scale (take (i + 1) xs) ys ≡ fault ∷ [] =
    marked_more scale xs ys i ∙ ap (λ (l : List Fault). l ++ option_to_list (marked_at scale xs ys i)) none
    ∙ ap (λ (o : Option Fault). option_to_list o) at in
    ap (λ (l : List Fault). slice_get l 0)
    (marked_front scale xs ys (i + 1) ∙ ap (λ (l : List Fault). l ++ faults scale (drop (i + 1) xs) (drop (i + 1) ys)) one)
