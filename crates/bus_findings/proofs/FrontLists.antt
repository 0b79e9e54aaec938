-- Lists whose last elements don't count, and searches by like tests.
use Rattle.std.specs.Prelude.{filter, count_by, fold}
use Rattle.std.specs.List.{find, list_all, list_any, range_with_len}
use Rattle.std.specs.Option.{option_or}
use Rattle.std.proofs.Common.{◌≡◌, ℕ, zero, suc, ◌+◌, ◌<◌, ◌≤◌, Bool, true, false, cond, ◌&&◌, ◌||◌, List, [], ◌∷◌, ◌++◌, Some, None, inl, inr, arith, refl, ap, ◌∙◌}
use Rattle.std.proofs.lemmas.List.Sums.{sum_by-append}
use Rattle.bus_strings.specs.Members.{In}
use Rattle.bus_findings.specs.Amounts.{greatest_to}
use Rattle.bus_findings.specs.Judging.{last_such}

filter_none : {X : Type 0} (p : X → Bool) → (ys : List X) → ((y : X) → In y ys → p y ≡ false) → filter p ys ≡ []
filter_none p [] h = refl
filter_none p (y ∷ ys) h =
    ap (λ b. cond b (y ∷ filter p ys) (filter p ys)) (h y (inl refl)) ∙ filter_none p ys (λ z i. h z (inr i))

pub filter_front : {X : Type 0} (p : X → Bool) → (xs ys : List X) → ((y : X) → In y ys → p y ≡ false) → filter p (xs ++ ys) ≡ filter p xs
filter_front p [] ys h = filter_none p ys h
filter_front p (x ∷ xs) ys h =
    let rest : filter p (xs ++ ys) ≡ filter p xs = filter_front p xs ys h in
    elim (p x) as (λ b. cond b (x ∷ filter p (xs ++ ys)) (filter p (xs ++ ys)) ≡ cond b (x ∷ filter p xs) (filter p xs))
    [ true ↦ ap (λ l. x ∷ l) rest | false ↦ rest ]

any_none : {X : Type 0} (p : X → Bool) → (ys : List X) → ((y : X) → In y ys → p y ≡ false) → list_any p ys ≡ false
any_none p [] h = refl
any_none p (y ∷ ys) h = ap (λ b. b || list_any p ys) (h y (inl refl)) ∙ any_none p ys (λ z i. h z (inr i))

pub any_front : {X : Type 0} (p : X → Bool) → (xs ys : List X) → ((y : X) → In y ys → p y ≡ false) → list_any p (xs ++ ys) ≡ list_any p xs
any_front p [] ys h = any_none p ys h
any_front p (x ∷ xs) ys h = ap (λ b. p x || b) (any_front p xs ys h)

all_each : {X : Type 0} (p : X → Bool) → (ys : List X) → ((y : X) → In y ys → p y ≡ true) → list_all p ys ≡ true
all_each p [] h = refl
all_each p (y ∷ ys) h = ap (λ b. b && list_all p ys) (h y (inl refl)) ∙ all_each p ys (λ z i. h z (inr i))

pub all_front : {X : Type 0} (p : X → Bool) → (xs ys : List X) → ((y : X) → In y ys → p y ≡ true) → list_all p (xs ++ ys) ≡ list_all p xs
all_front p [] ys h = all_each p ys h
all_front p (x ∷ xs) ys h = ap (λ b. p x && b) (all_front p xs ys h)

last_none : {X : Type 0} (p : X → Bool) → (ys : List X) → ((y : X) → In y ys → p y ≡ false) → last_such p ys ≡ None
last_none p [] h = refl
last_none p (y ∷ ys) h =
    ap (λ o. option_or o (cond (p y) (Some y) None)) (last_none p ys (λ z i. h z (inr i))) ∙ ap (λ b. cond b (Some y) None) (h y (inl refl))

pub last_front : {X : Type 0} (p : X → Bool) → (xs ys : List X) → ((y : X) → In y ys → p y ≡ false) → last_such p (xs ++ ys) ≡ last_such p xs
last_front p [] ys h = last_none p ys h
last_front p (x ∷ xs) ys h = ap (λ o. option_or o (cond (p x) (Some x) None)) (last_front p xs ys h)

count_none : {X : Type 0} (p : X → Bool) → (ys : List X) → ((y : X) → In y ys → p y ≡ false) → count_by p ys ≡ 0
count_none p [] h = refl
count_none p (y ∷ ys) h =
    ap (λ b. fold (λ a x. a + cond (p x) 1 0) (0 + cond b 1 0) ys) (h y (inl refl)) ∙ count_none p ys (λ z i. h z (inr i))

pub count_front : {X : Type 0} (p : X → Bool) → (xs ys : List X) → ((y : X) → In y ys → p y ≡ false) → count_by p (xs ++ ys) ≡ count_by p xs
count_front p xs ys h =
    let all : count_by p (xs ++ ys) ≡ count_by p xs + count_by p ys = sum_by-append (λ x. cond (p x) 1 0) xs ys in
    let none : count_by p ys ≡ 0 = count_none p ys h in
    omega (arith, all, none)

-- ---- like tests

pub any_range : (f g : ℕ → Bool) → (n a : ℕ) → ((m : ℕ) → a ≤ m → m < a + n → f m ≡ g m)
    → list_any f (range_with_len a n) ≡ list_any g (range_with_len a n)
any_range f g zero a h = refl
any_range f g (suc n) a h =
    ap (λ b. b || list_any f (range_with_len (a + 1) n)) (h a (omega arith) (omega arith))
    ∙ ap (λ b. g a || b) (any_range f g n (a + 1) (λ m low high. h m (omega (arith, low)) (omega (arith, high))))

pub find_range : (f g : ℕ → Bool) → (n a : ℕ) → ((m : ℕ) → a ≤ m → m < a + n → f m ≡ g m)
    → find f (range_with_len a n) ≡ find g (range_with_len a n)
find_range f g zero a h = refl
find_range f g (suc n) a h =
    ap (λ b. cond b (Some a) (find f (range_with_len (a + 1) n))) (h a (omega arith) (omega arith))
    ∙ ap (λ o. cond (g a) (Some a) o) (find_range f g n (a + 1) (λ m low high. h m (omega (arith, low)) (omega (arith, high))))

pub greatest_same : (f g : ℕ → Bool) → ((m : ℕ) → f m ≡ g m) → (n : ℕ) → greatest_to f n ≡ greatest_to g n
unfolding greatest_to
greatest_same f g h zero = refl
greatest_same f g h (suc n) =
    ap (λ b. cond b (suc n) (greatest_to f n)) (h (suc n)) ∙ ap (λ k. cond (g (suc n)) (suc n) k) (greatest_same f g h n)
