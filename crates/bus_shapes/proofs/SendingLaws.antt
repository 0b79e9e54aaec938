-- What holds of all that is told of a list.
use Rattle.std.specs.Prelude.{◌≡◌, ℕ, ◌+◌, List, [], ◌∷◌, length, slice_get, Some}
use Rattle.std.specs.List.{AllByRecursion}
use Rattle.std.proofs.Common.{arith, ap, suc, refl, sym, ◌∙◌, inl, inr}
use Rattle.bus_strings.specs.Members.{In}
use Rattle.bus_strings.specs.Messages.{Entry}
use Rattle.bus_shapes.specs.Sayings.{Sent}
use Rattle.bus_shapes.specs.Sending.{sent_of, sents, sents_from}
use Rattle.bus_shapes.specs.SendingLaws.{IsToldOf}
use Rattle.bus_shapes.specs.inside.Sents.{IsInOrder}

all_from : (list : List Entry) (k : ℕ) (xs : List Entry) → AllByRecursion IsInOrder (sents_from list k xs)
all_from list k [] = tt
all_from list k (x ∷ xs) = (omega arith, all_from list (k + 1) xs)

pub all_in_order : (list : List Entry) → AllByRecursion IsInOrder (sents list)
all_in_order list = all_from list 0 list

-- There are as many as entries.
many_from : (list : List Entry) (k : ℕ) (xs : List Entry) → length (sents_from list k xs) ≡ length xs
many_from list k [] = refl
many_from list k (x ∷ xs) = ap suc (many_from list (k + 1) xs)

pub as_many : (list : List Entry) → length (sents list) ≡ length list
as_many list = many_from list 0 list

pub told_from : (list : List Entry) (n : ℕ) (xs : List Entry) (sent : Sent) → In sent (sents_from list n xs)
    → (k : ℕ) × (x : Entry) × (slice_get xs k ≡ Some x) × (sent ≡ sent_of list (n + k) x)
told_from list n [] sent i = absurd i
told_from list n (x ∷ xs) sent (inl same) =
    (0, x, refl, same ∙ ap (λ m. sent_of list m x) (let e : n ≡ n + 0 = omega arith in e))
told_from list n (x ∷ xs) sent (inr i) =
    let r = told_from list (n + 1) xs sent i in
    (suc r.0, r.1, r.2, r.3 ∙ ap (λ m. sent_of list m r.1) (let e : n + 1 + r.0 ≡ n + suc r.0 = omega arith in e))

pub all_told : (list : List Entry) (sent : Sent) → In sent (sents list) → IsToldOf list sent
all_told list sent i =
    let r = told_from list 0 list sent i in
    let same : sent ≡ sent_of list r.0 r.1 = r.3 ∙ ap (λ m. sent_of list m r.1) (let none : 0 + r.0 ≡ r.0 = omega arith in none) in
    let at : sent.at ≡ r.0 = ap (λ (s : Sent). s.at) same in
    record {
      entry = r.1;
      at = ap (slice_get list) at ∙ r.2;
      told = same ∙ ap (λ m. sent_of list m r.1) (sym at);
    }
