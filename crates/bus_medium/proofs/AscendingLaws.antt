-- Entries in order, and lists of them that ascend.
use Rattle.std.proofs.Common.{◌≡◌, ◌<◌, Bool, true, false, cond, List, [], ◌∷◌, ◌++◌, inl, inr, arith, sym, refl, ap, ◌∙◌, subst}
use Rattle.std.specs.List.{filter, AllByRecursion}
use Rattle.bus_strings.specs.Members.{In}
use Rattle.bus_strings.proofs.MemberLaws.{from_filter, ordered_push}
use Rattle.bus_strings.specs.Messages.{Entry}
use Rattle.bus_strings.specs.Transmissions.{Precedes, IsAscending}

-- no entry precedes itself
pub precedes_apart : (x : Entry) → Precedes x x → ⊥
precedes_apart x (inl less) = omega arith
precedes_apart x (inr same) = let k : x.terminal < x.terminal = same.1 in omega arith

-- of two entries one precedes the other at most
pub precedes_once : (x y : Entry) → Precedes x y → Precedes y x → ⊥
precedes_once x y (inl a) (inl b) = omega arith
precedes_once x y (inl a) (inr b) = let k : y.moment ≡ x.moment = b.0 in omega arith
precedes_once x y (inr a) (inl b) = let k : x.moment ≡ y.moment = a.0 in omega arith
precedes_once x y (inr a) (inr b) = let k : x.terminal < y.terminal = a.1 in let l : y.terminal < x.terminal = b.1 in omega arith

-- an entry precedes those behind it
pub behind_in : (x : Entry) (ys : List Entry) (y : Entry) → AllByRecursion (Precedes x) ys → In y ys → Precedes x y
behind_in x [] y o h = absurd h
behind_in x (z ∷ zs) y o (inl same) = subst (λ w. Precedes x w) (sym same) o.0
behind_in x (z ∷ zs) y o (inr h) = behind_in x zs y o.1 h

-- an entry that precedes each of a list
pub behind_all : (x : Entry) (ys : List Entry) → ((y : Entry) → In y ys → Precedes x y) → AllByRecursion (Precedes x) ys
behind_all x [] h = tt
behind_all x (y ∷ ys) h = (h y (inl refl), behind_all x ys (λ z k. h z (inr k)))

-- what a test takes of a list in order is in order
pub ascending_filter : (p : Entry → Bool) (xs : List Entry) → IsAscending xs → IsAscending (filter p xs)
ascending_filter p [] h = tt
ascending_filter p (x ∷ xs) h =
    elim (p x) as (λ b. IsAscending (cond b (x ∷ filter p xs) (filter p xs))) [
      | true ↦ (behind_all x (filter p xs) (λ y k. behind_in x xs y h.0 (from_filter p xs y k).0), ascending_filter p xs h.1)
      | false ↦ ascending_filter p xs h.1
    ]

-- a list in order, and one more entry that the others precede
pub ascending_push : (xs : List Entry) (x : Entry) → IsAscending xs → ((y : Entry) → In y xs → Precedes y x) → IsAscending (xs ++ x ∷ [])
ascending_push xs x o h = ordered_push Precedes xs x o h

-- lists in order with the same elements are one
pub same_ascending : (xs ys : List Entry) → IsAscending xs → IsAscending ys → ((x : Entry) → In x xs → In x ys)
    → ((y : Entry) → In y ys → In y xs) → xs ≡ ys
same_ascending [] [] a b f g = refl
same_ascending [] (y ∷ ys) a b f g = absurd (g y (inl refl))
same_ascending (x ∷ xs) [] a b f g = absurd (f x (inl refl))
same_ascending (x ∷ xs) (y ∷ ys) a b f g =
    let heads : x ≡ y = elim (f x (inl refl)) [
      | inl same ↦ same
      | inr later ↦ elim (g y (inl refl)) [
        | inl same ↦ sym same
        | inr later2 ↦ absurd (precedes_once x y (behind_in x xs y a.0 later2) (behind_in y ys x b.0 later))
      ]
    ] in
    let tails : xs ≡ ys = same_ascending xs ys a.1 b.1
    (λ z k. elim (f z (inr k)) [
      | inl same ↦ absurd (precedes_apart x (subst (λ w. Precedes x w) (same
          ∙ sym heads) (behind_in x xs z a.0 k)))
      | inr r ↦ r
    ])
    (λ z k. elim (g z (inr k)) [
      | inl same ↦ absurd (precedes_apart y (subst (λ w. Precedes y w) (same
          ∙ heads) (behind_in y ys z b.0 k)))
      | inr r ↦ r
    ]) in
    ap (λ w. w ∷ xs) heads ∙ ap (λ ws. y ∷ ws) tails
