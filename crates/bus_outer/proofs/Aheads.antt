-- Bytes that were read ahead, and a front of them that is taken.
use Rattle.std.proofs.Common.{arith, zero, suc, ◌≡◌, ◌≤◌, ◌+◌, ◌-◌, ℕ, List, [], ◌∷◌, ◌++◌, length, take, drop, refl, sym, ap, ◌∙◌}
use Rattle.std.proofs.Common.{append_assoc, take-append-drop, Some, None}
use Rattle.std.proofs.lemmas.List.{length-take}
use Rattle.std.specs.List.{slice_range}
use Rattle.std.specs.declared.option.Option.{Option}
use Rattle.std.specs.Io.KnownBytes.{prepend_known, Consumes}

drop_none : (n : ℕ) (xs : List ℕ) → xs ≡ [] → drop n xs ≡ []
drop_none zero xs e = e
drop_none (suc n) [] e = refl
drop_none (suc n) (x ∷ xs) e = absurd cc

take_none : (n : ℕ) (xs : List ℕ) → xs ≡ [] → take n xs ≡ []
take_none zero xs e = refl
take_none (suc n) [] e = refl
take_none (suc n) (x ∷ xs) e = absurd cc

drop_take : (n m : ℕ) (xs : List ℕ) → drop n (take m xs) ≡ take (m - n) (drop n xs)
drop_take zero m xs = let e : m ≡ m - 0 = omega arith in ap (λ k. take k xs) e
drop_take (suc n) zero xs = let e : 0 ≡ 0 - suc n = omega arith in ap (λ k. take k (drop (suc n) xs)) e
drop_take (suc n) (suc m) [] = sym (take_none (suc m - suc n) [] refl)
drop_take (suc n) (suc m) (x ∷ xs) = let e : m - n ≡ suc m - suc n = omega arith in drop_take n m xs ∙ ap (λ k. take k (drop n xs)) e

drop_drop : (a n : ℕ) (xs : List ℕ) → drop n (drop a xs) ≡ drop (a + n) xs
drop_drop zero n xs = let e : n ≡ 0 + n = omega arith in ap (λ k. drop k xs) e
drop_drop (suc a) n [] = drop_none n [] refl ∙ sym (drop_none (suc a + n) [] refl)
drop_drop (suc a) n (x ∷ xs) = let e : suc (a + n) ≡ suc a + n = omega arith in drop_drop a n xs ∙ ap (λ k. drop k (x ∷ xs)) e

-- what is left of a range behind its first n bytes
range_rest : (xs : List ℕ) (a b n : ℕ) → drop n (slice_range xs a b) ≡ slice_range xs (a + n) b
range_rest xs a b n = drop_take n (b - a) (drop a xs) ∙ ap (take (b - a - n)) (drop_drop a n xs)
    ∙ ap (λ k. take k (drop (a + n) xs)) (omega arith)

consumes : (known : Option (List ℕ)) (old new taken : List ℕ) → old ≡ taken ++ new
    → Consumes (prepend_known old known) (prepend_known new known) taken
consumes None old new taken e = tt
consumes (Some xs) old new taken e = ap (λ l. l ++ xs) e ∙ append_assoc taken new xs

pub takes_ahead : (known : Option (List ℕ)) (xs : List ℕ) (a b n : ℕ) (taken : List ℕ)
    → slice_range xs a b ≡ taken ++ drop n (slice_range xs a b)
    → Consumes (prepend_known (slice_range xs a b) known) (prepend_known (slice_range xs (a + n) b) known) taken
takes_ahead known xs a b n taken e = consumes known (slice_range xs a b) (slice_range xs (a + n) b) taken
    (e ∙ ap (λ l. taken ++ l) (range_rest xs a b n))

take_take : (n p : ℕ) (xs : List ℕ) → n ≤ p → take n (take p xs) ≡ take n xs
take_take zero p xs h = refl
take_take (suc n) zero xs h = absurd (omega arith)
take_take (suc n) (suc p) [] h = refl
take_take (suc n) (suc p) (x ∷ xs) h = ap (λ r. x ∷ r) (take_take n p xs (omega arith))

-- what was taken of a piece behind the first a bytes, and what is left of all
pub takes_piece : (p n a : ℕ) (xs : List ℕ) → n ≤ length (take p (drop a xs)) → drop a xs ≡ take n (take p (drop a xs)) ++ drop (a + n) xs
takes_piece p n a xs h =
    sym (take-append-drop n (drop a xs))
    ∙ ap (λ t. t ++ drop n (drop a xs)) (sym (take_take n p (drop a xs) (omega (arith, h, length-take p (drop a xs)))))
    ∙ ap (λ r. take n (take p (drop a xs)) ++ r) (drop_drop a n xs)
