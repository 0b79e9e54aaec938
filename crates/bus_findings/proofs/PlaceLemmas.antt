-- Lists cut at a place, and what holds of the parts.
use Rattle.std.specs.Prelude.{slice_get, slice_range}
use Rattle.std.specs.List.{filter, count_by}
use Rattle.std.proofs.Common.{◌≡◌, ℕ, zero, suc, ◌+◌, ◌-◌, ◌<◌, ◌≤◌, Bool, true, false, cond, List, [], ◌∷◌, ◌++◌, map, length, take, drop, get_or, Some, inl, inr, arith, refl, ap, sym, subst, ◌∙◌}
use Rattle.std.proofs.lemmas.Option.{get_or_from_slice_get}
use Rattle.std.proofs.lemmas.List.{take-append-drop}
use Rattle.std.proofs.lemmas.List.Folds.{drop_split}
use Rattle.std.proofs.lemmas.List.Sums.{sum_by-cons, sum_by-append}
use Rattle.std.proofs.Math.Seq.{take-add}
use Rattle.bus_strings.specs.Members.{In}
use Rattle.bus_strings.specs.Messages.{Entry}
use Rattle.bus_strings.specs.Transmissions.{Precedes, IsOrdered, IsAscending}
use Rattle.bus_strings.proofs.ListLaws.{drop_at}
use Rattle.bus_strings.proofs.MemberLaws.{of_each, in_append_left, in_append_right, in_append_cases}
use Rattle.bus_strings.proofs.OverlapLemmas.{ordered_before, ordered_behind}

-- the front of a list that is one longer
pub take_next : {X : Type 0} (xs : List X) (i : ℕ) (x : X) → slice_get xs i ≡ Some x → take (i + 1) xs ≡ take i xs ++ x ∷ []
take_next xs i x e = take-add i 1 xs ∙ ap (λ l. take i xs ++ take 1 l) (drop_at xs i x e)

-- a list at a place
pub split_at : {X : Type 0} (xs : List X) (i : ℕ) (x : X) → slice_get xs i ≡ Some x → xs ≡ take i xs ++ x ∷ drop (i + 1) xs
split_at xs i x e = sym (take-append-drop i xs) ∙ ap (λ l. take i xs ++ l) (drop_at xs i x e)

-- what stands behind a place, up to another, and from there on
pub behind_split : {X : Type 0} (xs : List X) (place to : ℕ) (o : X) → slice_get xs place ≡ Some o → place < to
    → xs ≡ take place xs ++ o ∷ (slice_range xs (place + 1) to ++ drop to xs)
behind_split xs place to o e less =
    split_at xs place o e ∙ ap (λ l. take place xs ++ o ∷ l) (drop_split xs (place + 1) to (omega arith))

-- and the front up to the other
pub take_split : {X : Type 0} (xs : List X) (place to : ℕ) (o : X) → slice_get xs place ≡ Some o → place < to
    → take to xs ≡ take place xs ++ o ∷ slice_range xs (place + 1) to
take_split xs place to o e less =
    let all : to ≡ place + (to - place) = omega arith in
    let part : to - place ≡ suc (to - (place + 1)) = omega arith in
    ap (λ n. take n xs) all ∙ take-add place (to - place) xs
    ∙ ap (λ n. take place xs ++ take n (drop place xs)) part
    ∙ ap (λ l. take place xs ++ take (suc (to - (place + 1))) l) (drop_at xs place o e)

-- the members of the parts
pub in_part : {X : Type 0} (xs : List X) (a b : ℕ) (z : X) → a ≤ b → In z (slice_range xs a b) → In z xs
in_part xs a b z less i =
    let all : xs ≡ take a xs ++ (slice_range xs a b ++ drop b xs) = sym (take-append-drop a xs) ∙ ap (λ l. take a xs ++ l) (drop_split xs a b less) in
    subst (λ l. In z l) (sym all) (in_append_right (take a xs) _ z (in_append_left (slice_range xs a b) (drop b xs) z i))

pub in_take : {X : Type 0} (xs : List X) (n : ℕ) (z : X) → In z (take n xs) → In z xs
in_take xs n z i = subst (λ l. In z l) (take-append-drop n xs) (in_append_left (take n xs) (drop n xs) z i)

pub in_drop : {X : Type 0} (xs : List X) (n : ℕ) (z : X) → In z (drop n xs) → In z xs
in_drop xs n z i = subst (λ l. In z l) (take-append-drop n xs) (in_append_right (take n xs) (drop n xs) z i)

-- where a member stands: before a place, at it, behind it up to another, or from there on
pub data Where {X : Type 0} (xs : List X) (place to : ℕ) (o z : X) : Type 0 where
  before : In z (take place xs) → Where xs place to o z
  here : z ≡ o → Where xs place to o z
  between : In z (slice_range xs (place + 1) to) → Where xs place to o z
  behind : In z (drop to xs) → Where xs place to o z

pub stands : {X : Type 0} (xs : List X) (place to : ℕ) (o z : X) → slice_get xs place ≡ Some o → place < to → In z xs → Where xs place to o z
stands xs place to o z e less i =
    let all : In z (take place xs ++ o ∷ (slice_range xs (place + 1) to ++ drop to xs)) = subst (λ l. In z l) (behind_split xs place to o e less) i in
    elim (in_append_cases (take place xs) (o ∷ (slice_range xs (place + 1) to ++ drop to xs)) z all) [
      | inl front ↦ before front
      | inr rest ↦ elim rest [
        | inl same ↦ here same
        | inr later ↦ elim (in_append_cases (slice_range xs (place + 1) to) (drop to xs) z later) [ inl mid ↦ between mid | inr last ↦ behind last ]
      ]
    ]

-- ---- in an ascending list

-- what stands before an entry precedes it, and it precedes what stands behind it
pub before_it : (list : List Entry) (k : ℕ) (x z : Entry) → IsAscending list → slice_get list k ≡ Some x → In z (take k list) → Precedes z x
before_it list k x z up e i = of_each (λ y. Precedes y x) (take k list) (ordered_before Precedes list k x up e) z i

pub behind_it : (list : List Entry) (k : ℕ) (x z : Entry) → IsAscending list → slice_get list k ≡ Some x → In z (drop (k + 1) list) → Precedes x z
behind_it list k x z up e i =
    let n : k + 1 ≡ suc k = omega arith in
    of_each (Precedes x) (drop (suc k) list) (ordered_behind Precedes list k x up e) z (subst (λ m. In z (drop m list)) n i)

pub behind_part : (list : List Entry) (k to : ℕ) (x z : Entry) → IsAscending list → slice_get list k ≡ Some x → k < to → In z (slice_range list (k + 1) to)
    → Precedes x z
behind_part list k to x z up e less i =
    let all : drop (k + 1) list ≡ slice_range list (k + 1) to ++ drop to list = drop_split list (k + 1) to (omega arith) in
    behind_it list k x z up e (subst (λ l. In z l) (sym all) (in_append_left (slice_range list (k + 1) to) (drop to list) z i))

pub moments_ascend : (x z : Entry) → Precedes x z → x.moment ≤ z.moment
moments_ascend x z (inl less) = omega arith
moments_ascend x z (inr same) = let e : x.moment ≡ z.moment = same.0 in omega arith

pub own_moments_ascend : (x z : Entry) → Precedes x z → x.terminal ≡ z.terminal → x.moment < z.moment
own_moments_ascend x z (inl less) own = less
own_moments_ascend x z (inr same) own = let less : x.terminal < z.terminal = same.1 in absurd (omega arith)

pub ordered_drop : (R : Entry → Entry → Type 0) (n : ℕ) (list : List Entry) → IsOrdered R list → IsOrdered R (drop n list)
ordered_drop R zero list h = h
ordered_drop R (suc n) [] h = h
ordered_drop R (suc n) (x ∷ list) h = ordered_drop R n list h.1

-- ---- filters and counts

pub filter_push : {X : Type 0} (p : X → Bool) → (xs : List X) (x : X) → p x ≡ true → filter p (xs ++ x ∷ []) ≡ filter p xs ++ x ∷ []
filter_push p [] x e = rw e refl
filter_push p (y ∷ xs) x e =
    let rest : filter p (xs ++ x ∷ []) ≡ filter p xs ++ x ∷ [] = filter_push p xs x e in
    elim (p y) as (λ b. cond b (y ∷ filter p (xs ++ x ∷ [])) (filter p (xs ++ x ∷ [])) ≡ cond b (y ∷ filter p xs) (filter p xs) ++ x ∷ [])
    [ true ↦ ap (λ l. y ∷ l) rest | false ↦ rest ]

pub filter_skip : {X : Type 0} (p : X → Bool) → (xs : List X) (x : X) → p x ≡ false → filter p (xs ++ x ∷ []) ≡ filter p xs
filter_skip p [] x e = rw e refl
filter_skip p (y ∷ xs) x e =
    let rest : filter p (xs ++ x ∷ []) ≡ filter p xs = filter_skip p xs x e in
    elim (p y) as (λ b. cond b (y ∷ filter p (xs ++ x ∷ [])) (filter p (xs ++ x ∷ [])) ≡ cond b (y ∷ filter p xs) (filter p xs))
    [ true ↦ ap (λ l. y ∷ l) rest | false ↦ rest ]

pub filter_none : {X : Type 0} (p : X → Bool) → (xs : List X) → ((x : X) → In x xs → p x ≡ false) → filter p xs ≡ []
filter_none p [] h = refl
filter_none p (y ∷ xs) h =
    let e : p y ≡ false = h y (inl refl) in
    ap (λ b. cond b (y ∷ filter p xs) (filter p xs)) e ∙ filter_none p xs (λ x i. h x (inr i))

pub filter_each : {X : Type 0} (p : X → Bool) → (xs : List X) → ((x : X) → In x xs → p x ≡ true) → filter p xs ≡ xs
filter_each p [] h = refl
filter_each p (y ∷ xs) h =
    let e : p y ≡ true = h y (inl refl) in
    ap (λ b. cond b (y ∷ filter p xs) (filter p xs)) e ∙ ap (λ l. y ∷ l) (filter_each p xs (λ x i. h x (inr i)))

pub count_none : {X : Type 0} (p : X → Bool) → (xs : List X) → ((x : X) → In x xs → p x ≡ false) → count_by p xs ≡ 0
count_none p [] h = refl
count_none p (y ∷ xs) h =
    let e : p y ≡ false = h y (inl refl) in
    let rest : count_by p xs ≡ 0 = count_none p xs (λ x i. h x (inr i)) in
    let n : ℕ = cond (p y) 1 0 in
    let one : n ≡ 0 = ap (λ b. let m : ℕ = cond b 1 0 in m) e in
    let both : count_by p (y ∷ xs) ≡ n + count_by p xs = sum_by-cons (λ x. cond (p x) 1 0) y xs in
    omega (arith, rest, one, both)

pub count_apart : {X : Type 0} (p : X → Bool) → (xs : List X) (x : X) (ys zs : List X) → ((z : X) → In z xs → p z ≡ false) → p x ≡ false
    → ((z : X) → In z zs → p z ≡ false) → count_by p (xs ++ x ∷ (ys ++ zs)) ≡ count_by p ys
count_apart p xs x ys zs none_before not_it none_behind =
    let n : ℕ = cond (p x) 1 0 in
    let a : count_by p (xs ++ x ∷ (ys ++ zs)) ≡ count_by p xs + count_by p (x ∷ (ys ++ zs)) = sum_by-append (λ z. cond (p z) 1 0) xs (x ∷ (ys ++ zs)) in
    let b : count_by p (x ∷ (ys ++ zs)) ≡ n + count_by p (ys ++ zs) = sum_by-cons (λ z. cond (p z) 1 0) x (ys ++ zs) in
    let c : count_by p (ys ++ zs) ≡ count_by p ys + count_by p zs = sum_by-append (λ z. cond (p z) 1 0) ys zs in
    let d : count_by p xs ≡ 0 = count_none p xs none_before in
    let e : count_by p zs ≡ 0 = count_none p zs none_behind in
    let g : n ≡ 0 = ap (λ q. let m : ℕ = cond q 1 0 in m) not_it in
    omega (arith, a, b, c, d, e, g)

pub count_map : {X Y : Type 0} (p : Y → Bool) (f : X → Y) → (xs : List X) → count_by p (map f xs) ≡ count_by (λ x. p (f x)) xs
count_map p f [] = refl
count_map p f (x ∷ xs) =
    let n : ℕ = cond (p (f x)) 1 0 in
    let a : count_by p (map f (x ∷ xs)) ≡ n + count_by p (map f xs) = sum_by-cons (λ z. cond (p z) 1 0) (f x) (map f xs) in
    let b : count_by (λ z. p (f z)) (x ∷ xs) ≡ n + count_by (λ z. p (f z)) xs = sum_by-cons (λ z. cond (p (f z)) 1 0) x xs in
    let c : count_by p (map f xs) ≡ count_by (λ z. p (f z)) xs = count_map p f xs in
    omega (arith, a, b, c)

-- what is read at a place is what stands there
pub read_is : {X : Type 0} (xs : List X) (i : ℕ) (x y : X) → x ≡ get_or xs i x → slice_get xs i ≡ Some y → x ≡ y
read_is xs i x y is there = is ∙ get_or_from_slice_get xs i y x there

-- past the end there is nothing
pub drop_past : {X : Type 0} → (xs : List X) (n : ℕ) (z : X) → length xs ≤ n → In z (drop n xs) → ⊥
drop_past [] zero z h i = i
drop_past [] (suc n) z h i = i
drop_past (x ∷ xs) zero z h i = omega (arith, h)
drop_past (x ∷ xs) (suc n) z h i = drop_past xs n z (omega (arith, h)) i

-- an earlier start of the same terminal
pub start_before : (list : List Entry) (place i : ℕ) (o x : Entry) → IsAscending list → slice_get list place ≡ Some o → place < i → slice_get list i ≡ Some x
    → o.terminal ≡ x.terminal → o.moment < x.moment
start_before list place i o x up there less at same =
    own_moments_ascend o x (before_it list i x o up at
    (subst (λ l. In o l) (sym (take_split list place i o there less)) (in_append_right (take place list) (o ∷ slice_range list (place + 1) i) o (inl refl)))) same

-- one place has one element
pub same_at : {X : Type 0} (xs : List X) (i : ℕ) (x y : X) → slice_get xs i ≡ Some x → slice_get xs i ≡ Some y → x ≡ y
same_at xs i x y a b = let e : Some x ≡ Some y = sym a ∙ b in cc
