-- What functions give along a range of numbers.
use Rattle.std.proofs.Common.{◌≡◌, ℕ, zero, suc, ◌+◌, ◌-◌, ◌<◌, ◌≤◌, Bool, true, false, cond, List, [], ◌∷◌, ◌++◌, Option, Some, None}
use Rattle.std.proofs.Common.{arith, sym, refl, ap, ◌∙◌, inl, inr}
use Rattle.std.specs.List.{filter, filter_map, cons_option, range_with_len}
use Rattle.std.specs.Option.{option_and_then}
use Rattle.std.proofs.lemmas.List.Elements.{filter_map-append}
use Rattle.std.proofs.lemmas.Bool.{cases_eq}
use Rattle.bus_strings.specs.Members.{In}
use Rattle.bus_strings.proofs.ListLaws.{range_push}

-- functions that give the same
pub same_along : {Y : Type 0} (f g : ℕ → Option Y) (a n : ℕ) → ((k : ℕ) → a ≤ k → k < a + n → f k ≡ g k)
    → filter_map f (range_with_len a n) ≡ filter_map g (range_with_len a n)
same_along f g a zero h = refl
same_along f g a (suc n) h =
    ap (λ o. cons_option o (filter_map f (range_with_len (a + 1) n))) (h a (omega arith) (omega arith))
    ∙ ap (cons_option (g a)) (same_along f g (a + 1) n (λ k l u. h k (omega arith) (omega arith)))

-- a function that gives nothing
pub none_along : {Y : Type 0} (f : ℕ → Option Y) (a n : ℕ) → ((k : ℕ) → a ≤ k → f k ≡ None) → filter_map f (range_with_len a n) ≡ []
none_along f a zero h = refl
none_along f a (suc n) h =
    ap (λ o. cons_option o (filter_map f (range_with_len (a + 1) n))) (h a (omega arith)) ∙ none_along f (a + 1) n (λ k l. h k (omega arith))

front_along : {Y : Type 0} (f : ℕ → Option Y) (a n m : ℕ) → ((k : ℕ) → a + n ≤ k → f k ≡ None)
    → filter_map f (range_with_len a (n + m)) ≡ filter_map f (range_with_len a n)
front_along f a zero m h =
    ap (λ k. filter_map f (range_with_len a k)) (let e : 0 + m ≡ m = omega arith in e) ∙ none_along f a m (λ k l. h k (omega arith))
front_along f a (suc n) m h =
    ap (λ k. filter_map f (range_with_len a k)) (let e : suc n + m ≡ suc (n + m) = omega arith in e)
    ∙ ap (cons_option (f a)) (front_along f (a + 1) n m (λ k l. h k (omega arith)))

-- a function that gives nothing from a number on
pub front_is : {Y : Type 0} (f : ℕ → Option Y) (n m : ℕ) → n ≤ m → ((k : ℕ) → n ≤ k → f k ≡ None)
    → filter_map f (range_with_len 0 m) ≡ filter_map f (range_with_len 0 n)
front_is f n m low h =
    ap (λ k. filter_map f (range_with_len 0 k)) (let e : m ≡ n + (m - n) = omega arith in e)
    ∙ front_along f 0 n (m - n) (λ k l. h k (omega arith))

-- what is kept of a value
abbrev pub kept_if : {Y : Type 0} → (Y → Bool) → Option Y → Option Y
kept_if p None = None
kept_if p (Some y) = cond (p y) (Some y) None

filter_cons : {Y : Type 0} (p : Y → Bool) (o : Option Y) (ys : List Y) → filter p (cons_option o ys) ≡ cons_option (kept_if p o) (filter p ys)
filter_cons p None ys = refl
filter_cons p (Some y) ys = elim (p y) as (λ b. cond b (y ∷ filter p ys) (filter p ys) ≡ cons_option (cond b (Some y) None) (filter p ys)) [ true ↦ refl | false ↦ refl ]

-- those that pass a test
pub filter_along : {Y : Type 0} (p : Y → Bool) (f g : ℕ → Option Y) (a n : ℕ) → ((k : ℕ) → a ≤ k → k < a + n → kept_if p (f k) ≡ g k)
    → filter p (filter_map f (range_with_len a n)) ≡ filter_map g (range_with_len a n)
filter_along p f g a zero h = refl
filter_along p f g a (suc n) h =
    filter_cons p (f a) (filter_map f (range_with_len (a + 1) n))
    ∙ ap (λ o. cons_option o (filter p (filter_map f (range_with_len (a + 1) n)))) (h a (omega arith) (omega arith))
    ∙ ap (cons_option (g a)) (filter_along p f g (a + 1) n (λ k l u. h k (omega arith) (omega arith)))

given_cons : {X Y : Type 0} (f : X → Option Y) (o : Option X) (xs : List X)
    → filter_map f (cons_option o xs) ≡ cons_option (option_and_then f o) (filter_map f xs)
given_cons f None xs = refl
given_cons f (Some x) xs = refl

-- what another function gives of them
pub given_along : {X Y : Type 0} (f : X → Option Y) (g : ℕ → Option X) (h : ℕ → Option Y) (a n : ℕ)
    → ((k : ℕ) → option_and_then f (g k) ≡ h k) → filter_map f (filter_map g (range_with_len a n)) ≡ filter_map h (range_with_len a n)
given_along f g h a zero e = refl
given_along f g h a (suc n) e =
    given_cons f (g a) (filter_map g (range_with_len (a + 1) n))
    ∙ ap (λ o. cons_option o (filter_map f (filter_map g (range_with_len (a + 1) n)))) (e a)
    ∙ ap (cons_option (h a)) (given_along f g h (a + 1) n e)

pub given_push : {Y : Type 0} (f : ℕ → Option Y) (n : ℕ) (y : Y) → f n ≡ Some y
    → filter_map f (range_with_len 0 (n + 1)) ≡ filter_map f (range_with_len 0 n) ++ y ∷ []
given_push f n y e =
    let one : n + 1 ≡ suc n = omega arith in
    let zero_is : 0 + n ≡ n = omega arith in
    ap (λ m. filter_map f (range_with_len 0 m)) one
    ∙ ap (filter_map f) (range_push 0 n)
    ∙ filter_map-append f (range_with_len 0 n) ((0 + n) ∷ [])
    ∙ ap (λ k. filter_map f (range_with_len 0 n) ++ cons_option (f k) []) zero_is
    ∙ ap (λ o. filter_map f (range_with_len 0 n) ++ cons_option o []) e

-- the numbers of a range, one after another
pub range_join : (a n m : ℕ) → range_with_len a (n + m) ≡ range_with_len a n ++ range_with_len (a + n) m
range_join a zero m =
    ap (range_with_len a) (let e : 0 + m ≡ m = omega arith in e) ∙ ap (λ k. range_with_len k m) (let e : a ≡ a + 0 = omega arith in e)
range_join a (suc n) m =
    ap (range_with_len a) (let e : suc n + m ≡ suc (n + m) = omega arith in e)
    ∙ ap (λ t. a ∷ t) (range_join (a + 1) n m ∙ ap (λ k. range_with_len (a + 1) n ++ range_with_len k m) (let e : a + 1 + n ≡ a + suc n = omega arith in e))

cons_in : {Y : Type 0} (o : Option Y) (y : Y) (ys : List Y) → o ≡ Some y → In y (cons_option o ys)
cons_in None y ys e = absurd cc
cons_in (Some x) y ys e = inl (cc)

behind_in : {Y : Type 0} (o : Option Y) (y : Y) (ys : List Y) → In y ys → In y (cons_option o ys)
behind_in None y ys h = h
behind_in (Some x) y ys h = inr h

-- what a function gives of a number of the range is among what it gives
pub given_in : {Y : Type 0} (f : ℕ → Option Y) (a n k : ℕ) (y : Y) → a ≤ k → k < a + n → f k ≡ Some y → In y (filter_map f (range_with_len a n))
given_in f a zero k y l u e = absurd (omega arith)
given_in f a (suc n) k y l u e =
    elim (cases_eq k a) [
      | inl same ↦ cons_in (f a) y (filter_map f (range_with_len (a + 1) n)) (ap f (sym same) ∙ e)
      | inr other ↦ behind_in (f a) y (filter_map f (range_with_len (a + 1) n))
          (given_in f (a + 1) n k y (let w : a + 1 ≤ k = omega (arith, other) in w) (omega arith) e)
    ]
