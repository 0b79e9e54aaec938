-- What holds of each element of a list, and of one more; lists that are put together, places in them, and ranges with one number more.
use Rattle.std.proofs.Common.{◌≡◌, ℕ, zero, suc, ◌+◌, ◌<◌, Bool, true, false, cond, List, [], ◌∷◌, ◌++◌, length, map, take, drop, get_or}
use Rattle.std.proofs.Common.{Option, Some, None, refl, ap, sym, ◌∙◌, subst, append-nil, arith}
use Rattle.std.specs.Prelude.{slice_get}
use Rattle.std.specs.List.{filter, filter_map, flat_map, cons_option, range_with_len, list_all, AllByRecursion}
use Rattle.std.specs.Option.{option_map_or}
use Rattle.std.proofs.lemmas.Bool.{and_parts}
use Rattle.std.proofs.lemmas.List.{take_more, drop_more}
use Rattle.std.proofs.lemmas.Option.{slice_get_within, get_or_from_slice_get}
use Rattle.std.proofs.lemmas.List.Concat.{flat_map-append}

-- one more behind them
pub all_push : {X : Type 0} (P : X → Type 0) → (xs : List X) (x : X) → AllByRecursion P xs → P x → AllByRecursion P (xs ++ x ∷ [])
all_push P [] x h p = (p, tt)
all_push P (y ∷ ys) x h p = (h.0, all_push P ys x h.1 p)

pub all_append : {X : Type 0} (P : X → Type 0) (xs ys : List X) → AllByRecursion P xs → AllByRecursion P ys → AllByRecursion P (xs ++ ys)
all_append P [] ys h k = k
all_append P (x ∷ xs) ys h k = (h.0, all_append P xs ys h.1 k)

pub all_cons : {X : Type 0} (P : X → Type 0) (o : Option X) (xs : List X) → ((x : X) → o ≡ Some x → P x) → AllByRecursion P xs
    → AllByRecursion P (cons_option o xs)
all_cons P None xs h a = a
all_cons P (Some x) xs h a = (h x refl, a)

-- the first i and the next
pub all_more : {X : Type 0} (P : X → Type 0) → (xs : List X) (i : ℕ) (d : X) → i < length xs → AllByRecursion P (take i xs)
    → P (get_or xs i d) → AllByRecursion P (take (i + 1) xs)
all_more P xs i d within h p = subst (AllByRecursion P) (sym (take_more xs i d within)) (all_push P (take i xs) (get_or xs i d) h p)

-- One of some that all pass a test.
pub all_pass : {X : Type 0} (p : X → Bool) (xs : List X) (k : ℕ) (d : X) → list_all p xs ≡ true → k < length xs → p (get_or xs k d) ≡ true
all_pass p [] k d h within = absurd (omega arith)
all_pass p (x ∷ xs) zero d h within = (and_parts (p x) _ h).0
all_pass p (x ∷ xs) (suc k) d h within = all_pass p xs k d (and_parts (p x) _ h).1 (omega arith)

-- ---- lists that are put together
pub flat_map-same : {X A : Type 0} (f g : X → List A) (xs : List X) → ((x : X) → f x ≡ g x) → flat_map f xs ≡ flat_map g xs
flat_map-same f g [] h = refl
flat_map-same f g (x ∷ xs) h = ap (λ t. t ++ flat_map f xs) (h x) ∙ ap (λ t. g x ++ t) (flat_map-same f g xs h)

pub flat_map-map : {X Y A : Type 0} (f : Y → List A) (g : X → Y) (xs : List X) → flat_map f (map g xs) ≡ flat_map (λ x. f (g x)) xs
flat_map-map f g [] = refl
flat_map-map f g (x ∷ xs) = ap (λ t. f (g x) ++ t) (flat_map-map f g xs)

passing_by : {X A : Type 0} (t : Bool) (f : X → List A) (x : X) (xs : List X) (rest : List A) → rest ≡ flat_map f xs → cond t (f x) [] ++ rest ≡ flat_map f (cond t (x ∷ xs) xs)
passing_by true f x xs rest e = ap (λ r. f x ++ r) e
passing_by false f x xs rest e = e

-- those that pass a test
pub flat_map-passing : {X A : Type 0} (p : X → Bool) (f : X → List A) (xs : List X) → flat_map (λ x. cond (p x) (f x) []) xs ≡ flat_map f (filter p xs)
flat_map-passing p f [] = refl
flat_map-passing p f (x ∷ xs) = passing_by (p x) f x (filter p xs) _ (flat_map-passing p f xs)

given_by : {Y A : Type 0} (o : Option Y) (f : Y → List A) (ys : List Y) (rest : List A) → rest ≡ flat_map f ys
    → option_map_or f o [] ++ rest ≡ flat_map f (cons_option o ys)
given_by None f ys rest e = e
given_by (Some y) f ys rest e = ap (λ r. f y ++ r) e

-- what a function gives of some
pub flat_map-given : {X Y A : Type 0} (h : X → Option Y) (f : Y → List A) (xs : List X) → flat_map (λ x. option_map_or f (h x) []) xs ≡ flat_map f (filter_map h xs)
flat_map-given h f [] = refl
flat_map-given h f (x ∷ xs) = given_by (h x) f (filter_map h xs) _ (flat_map-given h f xs)

-- one more
pub flat_map-push : {X A : Type 0} (f : X → List A) (xs : List X) (x : X) → flat_map f (xs ++ x ∷ []) ≡ flat_map f xs ++ f x
flat_map-push f xs x = flat_map-append f xs (x ∷ []) ∙ ap (λ t. flat_map f xs ++ t) (append-nil (f x))

pub take_read : {X : Type 0} (xs : List X) (i : ℕ) (x : X) → i < length xs → x ≡ get_or xs i x → take (i + 1) xs ≡ take i xs ++ x ∷ []
take_read xs i x within is = take_more xs i x within ∙ ap (λ y. take i xs ++ y ∷ []) (sym is)

pub flat_map-next : {X A : Type 0} (f : X → List A) (xs : List X) (i : ℕ) (d : X) → i < length xs
    → flat_map f (take (i + 1) xs) ≡ flat_map f (take i xs) ++ f (get_or xs i d)
flat_map-next f xs i d within = ap (flat_map f) (take_more xs i d within) ∙ flat_map-push f (take i xs) (get_or xs i d)

pub flat_map-take : {X A : Type 0} (f : X → List A) (xs : List X) (i : ℕ) (x : X) → i < length xs → x ≡ get_or xs i x
    → flat_map f (take (i + 1) xs) ≡ flat_map f (take i xs) ++ f x
flat_map-take f xs i x within is = ap (flat_map f) (take_read xs i x within is) ∙ flat_map-push f (take i xs) x

-- ---- ranges
-- one number more
pub range_push : (a n : ℕ) → range_with_len a (suc n) ≡ range_with_len a n ++ (a + n) ∷ []
range_push a zero = let e : a ≡ a + 0 = omega arith in ap (λ k. k ∷ []) e
range_push a (suc n) =
    let e : (a + 1) + n ≡ a + suc n = omega arith in
    ap (λ t. a ∷ t) (range_push (a + 1) n ∙ ap (λ k. range_with_len (a + 1) n ++ k ∷ []) e)

-- from 0 on
pub range_next : (n : ℕ) → range_with_len 0 (n + 1) ≡ range_with_len 0 n ++ n ∷ []
range_next n =
    let one : n + 1 ≡ suc n = omega arith in
    let e : 0 + n ≡ n = omega arith in
    ap (range_with_len 0) one ∙ range_push 0 n ∙ ap (λ k. range_with_len 0 n ++ k ∷ []) e

pub flat_map-range : {A : Type 0} (f : ℕ → List A) (n : ℕ) → flat_map f (range_with_len 0 (n + 1)) ≡ flat_map f (range_with_len 0 n) ++ f n
flat_map-range f n = ap (flat_map f) (range_next n) ∙ flat_map-push f (range_with_len 0 n) n

-- ---- places in a list
pub some_at : {X : Type 0} (xs : List X) (k : ℕ) → k < length xs → (x : X) × (slice_get xs k ≡ Some x)
some_at [] k h = absurd (omega arith)
some_at (x ∷ xs) zero h = (x, refl)
some_at (x ∷ xs) (suc k) h = some_at xs k (omega arith)

pub get_left : {X : Type 0} (xs ys : List X) (k : ℕ) → k < length xs → slice_get (xs ++ ys) k ≡ slice_get xs k
get_left [] ys k h = absurd (omega arith)
get_left (x ∷ xs) ys zero h = refl
get_left (x ∷ xs) ys (suc k) h = get_left xs ys k (omega arith)

pub drop_read : {X : Type 0} (xs : List X) (k : ℕ) (x : X) → k < length xs → x ≡ get_or xs k x → drop k xs ≡ x ∷ drop (k + 1) xs
drop_read xs k x within is = drop_more xs k x within ∙ ap (λ y. y ∷ drop (k + 1) xs) (sym is)

pub drop_at : {X : Type 0} (xs : List X) (k : ℕ) (x : X) → slice_get xs k ≡ Some x → drop k xs ≡ x ∷ drop (k + 1) xs
drop_at xs k x at = drop_read xs k x (slice_get_within xs k x at) (sym (get_or_from_slice_get xs k x x at))

-- what is left of a list, from a place on
pub first_left : {X : Type 0} (xs : List X) (k : ℕ) → slice_get (drop k xs) 0 ≡ slice_get xs k
first_left [] zero = refl
first_left [] (suc k) = refl
first_left (x ∷ xs) zero = refl
first_left (x ∷ xs) (suc k) = first_left xs k

pub rest_left : {X : Type 0} (xs : List X) (k : ℕ) → drop 1 (drop k xs) ≡ drop (k + 1) xs
rest_left xs k = let one : k + 1 ≡ suc k = omega arith in rest_by xs k ∙ ap (λ n. drop n xs) (sym one) where
  rest_by : {X : Type 0} (xs : List X) (k : ℕ) → drop 1 (drop k xs) ≡ drop (suc k) xs
  rest_by [] zero = refl
  rest_by [] (suc k) = refl
  rest_by (x ∷ xs) zero = refl
  rest_by (x ∷ xs) (suc k) = rest_by xs k

-- What is put of a list that has one more.
pub flat_map-more : {X A : Type 0} (f : X → List A) (xs ys : List X) (x : X) → ys ≡ xs ++ x ∷ [] → flat_map f xs ++ f x ≡ flat_map f ys
flat_map-more f xs ys x e = sym (ap (flat_map f) e ∙ flat_map-push f xs x)
