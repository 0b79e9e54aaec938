-- Clocks, one after another.
use Rattle.std.proofs.Common.{◌≡◌, ℕ, zero, suc, ◌+◌, ◌<◌, ◌≤◌, ◌++◌, ◌∷◌, [], List, length, set, Some, None, inl, inr, arith, sym, refl, ap, ◌∙◌, subst}
use Rattle.std.specs.Prelude.{slice_get}
use Rattle.std.proofs.lemmas.Bool.{cases_lt, cases_eq}
use Rattle.std.proofs.lemmas.List.{length-set, length_push}
use Rattle.std.proofs.lemmas.Option.{slice_get_within}
use Rattle.bus_timers.specs.declared.cores.Core.{Ghosts}
use Rattle.bus_medium.specs.Buses.{Seat}
use Rattle.bus_medium.specs.inside.Lazy.{Clock, IsSettled, AreSettled, IsTold, AreTold, AllSit, Sits}
use Rattle.bus_medium.proofs.Seats.{get_set_same, get_set_other, same_some}

-- the clocks of the first senders
pub record SettledSoFar {C : Type 0} (quiet : ℕ) (seats : List (Seat C)) (clocks : List Clock) (i : ℕ) : Type 0 where
  pub long : length clocks ≡ i
  pub each : (j : ℕ) (x : Seat C) (k : Clock) → slice_get seats j ≡ Some x → slice_get clocks j ≡ Some k → IsSettled quiet x k

pub settled_none : {C : Type 0} (quiet : ℕ) (seats : List (Seat C)) → SettledSoFar quiet seats [] 0
settled_none quiet seats = record { long = refl; each = λ j x k x_at k_at. absurd (let h : None ≡ Some k = k_at in cc) }

get_push_last : {X : Type 0} (xs : List X) (x : X) → slice_get (xs ++ x ∷ []) (length xs) ≡ Some x
get_push_last [] x = refl
get_push_last (y ∷ ys) x = get_push_last ys x

get_push_before : {X : Type 0} (xs : List X) (x : X) (j : ℕ) → j < length xs → slice_get (xs ++ x ∷ []) j ≡ slice_get xs j
get_push_before [] x j h = absurd (omega arith)
get_push_before (y ∷ ys) x zero h = refl
get_push_before (y ∷ ys) x (suc j) h = get_push_before ys x j (omega arith)

pub settled_more : {C : Type 0} (quiet : ℕ) (seats : List (Seat C)) (clocks : List Clock) (i : ℕ) (x : Seat C) (k : Clock) → SettledSoFar quiet seats clocks i → slice_get seats i ≡ Some x → IsSettled quiet x k
    → SettledSoFar quiet seats (clocks ++ k ∷ []) (i + 1)
settled_more quiet seats clocks i x k so at made =
    let long : length clocks ≡ i = so.long in
    record {
      long = omega (arith, length_push clocks k);
      each = λ j y c y_at c_at. elim (cases_lt j (length clocks)) [
        | inl old ↦ so.each j y c y_at (sym (get_push_before clocks k j old) ∙ c_at)
        | inr new ↦
            let within : j < length (clocks ++ k ∷ []) = slice_get_within (clocks ++ k ∷ []) j c c_at in
            let here : j ≡ length clocks = omega (arith, length_push clocks k) in
            let there : j ≡ i = omega arith in
            let clock : k ≡ c = same_some k c (sym (get_push_last clocks k) ∙ ap (slice_get (clocks ++ k ∷ [])) (sym here) ∙ c_at) in
            let seat : x ≡ y = same_some x y (sym at ∙ ap (slice_get seats) (sym there) ∙ y_at) in
            subst (λ w. IsSettled quiet w c) seat (subst (λ w. IsSettled quiet x w) clock made)
      ];
    }

pub settled_all : {C : Type 0} (quiet : ℕ) (seats : List (Seat C)) (clocks : List Clock) (i : ℕ) → SettledSoFar quiet seats clocks i → i ≡ length seats → AreSettled quiet seats clocks
settled_all quiet seats clocks i so e = record { same_length = so.long ∙ e; each = so.each }

-- the first senders are told
pub record ToldSoFar {C : Type 0} (core : Ghosts C) (quiet now : ℕ) (clocks : List Clock) (xs ys : List (Seat C)) (i : ℕ) : Type 0 where
  pub same_length : length ys ≡ length xs
  pub done : (j : ℕ) (x y : Seat C) (k : Clock) → j < i → slice_get xs j ≡ Some x → slice_get ys j ≡ Some y → slice_get clocks j ≡ Some k → IsTold core quiet now k x y
  pub rest : (j : ℕ) → i ≤ j → slice_get ys j ≡ slice_get xs j

pub told_none : {C : Type 0} (core : Ghosts C) (quiet now : ℕ) (clocks : List Clock) (xs : List (Seat C)) → ToldSoFar core quiet now clocks xs xs 0
told_none core quiet now clocks xs = record { same_length = refl; done = λ j x y k below. absurd (omega arith); rest = λ j low. refl }

pub told_more : {C : Type 0} (core : Ghosts C) (quiet now : ℕ) (clocks : List Clock) (xs ys : List (Seat C)) (i : ℕ) (x y : Seat C) (k : Clock) → ToldSoFar core quiet now clocks xs ys i → i < length ys → slice_get ys i ≡ Some x → slice_get clocks i ≡ Some k
    → IsTold core quiet now k x y → ToldSoFar core quiet now clocks xs (set ys i y) (i + 1)
told_more core quiet now clocks xs ys i x y k so h at k_at p = record {
  same_length = length-set ys i y ∙ so.same_length;
  done = λ j a b c below in_xs in_ys in_ks. elim (cases_eq i j) [
    | inl here ↦
        let old : Some a ≡ Some x = sym in_xs ∙ ap (slice_get xs) (sym here) ∙ sym (so.rest i (omega arith)) ∙ at in
        let new : Some b ≡ Some y = sym in_ys ∙ ap (slice_get (set ys i y)) (sym here) ∙ get_set_same ys i y h in
        let clock : Some c ≡ Some k = sym in_ks ∙ ap (slice_get clocks) (sym here) ∙ k_at in
        subst (λ v. IsTold core quiet now c v b) (sym (same_some a x old)) (subst (λ w. IsTold core quiet now c x w) (sym (same_some b y new)) (subst (λ w. IsTold core quiet now w x y) (sym (same_some c k clock)) p))
    | inr other ↦ so.done j a b c (omega arith) in_xs (sym (get_set_other ys i j y other) ∙ in_ys) in_ks
  ];
  rest = λ j low. get_set_other ys i j y (λ e. omega arith) ∙ so.rest j (omega arith);
}

pub told_end : {C : Type 0} (core : Ghosts C) (quiet now : ℕ) (clocks : List Clock) (xs ys : List (Seat C)) (i : ℕ) → ToldSoFar core quiet now clocks xs ys i → length ys ≤ i → AreTold core quiet now clocks xs ys
told_end core quiet now clocks xs ys i so h = record {
  same_length = so.same_length;
  each = λ j x y k in_xs in_ys in_ks. so.done j x y k (let w : j < length ys = slice_get_within ys j y in_ys in omega arith) in_xs in_ys in_ks;
}

-- the sender that is told next sits as before
pub told_sits : {C : Type 0} (core : Ghosts C) (quiet now : ℕ) (clocks : List Clock) (xs ys : List (Seat C)) (i : ℕ) (x : Seat C) (k : Clock) → ToldSoFar core quiet now clocks xs ys i → AllSit core quiet now xs clocks
    → slice_get ys i ≡ Some x → slice_get clocks i ≡ Some k → Sits core quiet now x k
told_sits core quiet now clocks xs ys i x k so sit at k_at = sit i x k (sym (so.rest i (omega arith)) ∙ at) k_at
