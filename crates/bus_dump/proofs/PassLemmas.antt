-- A list that is mapped in place, element by element.
use Rattle.std.proofs.Common.{◌≡◌, ℕ, ◌+◌, ◌<◌, ◌≤◌, List, [], ◌∷◌, ◌++◌, length, map, take, drop, set, get_or, arith, refl, sym, ap, ◌∙◌}
use Rattle.std.proofs.lemmas.List.{length-map, length-set, take_more, take_more_set, take_all, drop-drop, drop-set-lt, get_or-drop, map_push}
use Rattle.arrayvec.specs.ArrayVec.{ArrayVec, with_items}
use Rattle.arrayvec.proofs.ArrayVecLemmas.{items-with_items}

-- the first i elements are mapped
pub record MappedTo {X : Type 0} (f : X → X) (xs vs : List X) (i : ℕ) : Type 0 where
  pub same_length : length vs ≡ length xs
  pub done : take i vs ≡ map f (take i xs)
  pub rest : drop i vs ≡ drop i xs

pub mapped_none : {X : Type 0} (f : X → X) (xs : List X) → MappedTo f xs xs 0
mapped_none f xs = record { same_length = refl; done = refl; rest = refl }

-- the next one is as it was
pub same_next : {X : Type 0} (f : X → X) (xs vs : List X) (i : ℕ) (d : X) → MappedTo f xs vs i → get_or vs i d ≡ get_or xs i d
same_next f xs vs i d so =
    let at : i + 0 ≡ i = omega arith in
    ap (λ k. get_or vs k d) (sym at) ∙ sym (get_or-drop i vs 0 d) ∙ ap (λ l. get_or l 0 d) so.rest ∙ get_or-drop i xs 0 d ∙ ap (λ k. get_or xs k d) at

pub mapped_more : {X : Type 0} (f : X → X) (xs vs : List X) (i : ℕ) (y d : X) → MappedTo f xs vs i → i < length vs → y ≡ f (get_or vs i d)
    → MappedTo f xs (set vs i y) (i + 1)
mapped_more f xs vs i y d so within is = record {
  same_length = length-set vs i y ∙ so.same_length;
  done = take_more_set vs i y within ∙ ap (λ l. l ++ y ∷ []) so.done
      ∙ ap (λ z. map f (take i xs) ++ z ∷ []) (is ∙ ap f (same_next f xs vs i d so))
      ∙ sym (map_push f (take i xs) (get_or xs i d)) ∙ ap (map f) (sym (take_more xs i d (omega (arith, so.same_length))));
  rest = drop-set-lt (i + 1) vs i y (omega arith) ∙ sym (drop-drop 1 i vs) ∙ ap (drop 1) so.rest ∙ drop-drop 1 i xs;
}

pub mapped_all : {X : Type 0} (f : X → X) (xs vs : List X) (i : ℕ) → MappedTo f xs vs i → length vs ≤ i → vs ≡ map f xs
mapped_all f xs vs i so past =
    sym (take_all i vs past) ∙ so.done ∙ ap (map f) (take_all i xs (omega (arith, so.same_length)))

-- what an array has, once its elements are mapped through its slice
pub written : {X : Type 0} (v : ArrayVec X) (was vs : List X) (f : X → X) → was ≡ v.items → vs ≡ map f was → (with_items v vs).items ≡ vs
written v was vs f same is = items-with_items v vs (ap length is ∙ length-map was f ∙ ap length same)
