-- Overlaps and garbled entries.
use Rattle.std.proofs.Common.{◌≡◌, ℕ, zero, suc, ◌+◌, ◌<◌, ◌≤◌, Bool, true, false, ◌&&◌, ◌||◌, ltb, List, [], ◌∷◌, ◌++◌, length, take, drop, max, inl, inr, arith, sym, refl, ap, ◌∙◌, subst, Option, Some, None}
use Rattle.std.specs.Prelude.{slice_get, fold}
use Rattle.std.specs.Option.{option_map_or}
use Rattle.std.specs.List.{list_any, AllByRecursion}
use Rattle.std.proofs.lemmas.Bool.{cases_lt, lt-ltb, le-ltb, ltb-true, and_parts, or_right}
use Rattle.std.proofs.lemmas.List.Folds.{list_any-append}
use Rattle.std.proofs.lemmas.List.Sums.{fold-append}
use Rattle.std.proofs.lemmas.List.FromFn.{length-map-range_with_len, get_or-map-range_with_len}
use Rattle.std.proofs.lemmas.List.{take_more}
use Rattle.std.proofs.lemmas.Option.{slice_get_within, get_or_from_slice_get}
use Rattle.std.proofs.Math.Seq.{drop-cons}
use Rattle.std.proofs.Math.ListN.{drop_of_length-le}
use Rattle.bus_strings.specs.Messages.{Entry, bits}
use Rattle.bus_strings.proofs.MessageLaws.{bits_some}
use Rattle.bus_strings.specs.Transmissions.{end_of, overlaps, garbled, marks, Precedes, IsOrdered, IsByMoment}
use Rattle.bus_strings.specs.Marking.{greatest_end}
use Rattle.bus_strings.proofs.ListLaws.{all_push}
use Rattle.bus_strings.specs.OverlapLaws.{OverlapsMeet, NeighboursTell, AscendingIsByMoment}
use Rattle.bus_strings.proofs.TestLaws.{or_false}

abbrev HasWords : Entry → Type 0
HasWords x = 0 < length x.message

-- where two transmissions overlap, the later moment of the two lies in both
pub overlaps_meet : OverlapsMeet
overlaps_meet x y some_x some_y = (
  (λ e.
      let p = and_parts (ltb x.moment (end_of y)) (ltb y.moment (end_of x)) e in
      let a : x.moment < end_of y = ltb-true x.moment (end_of y) p.0 in
      let b : y.moment < end_of x = ltb-true y.moment (end_of x) p.1 in
      let c : 0 < bits x.message = bits_some x.message some_x in
      let d : 0 < bits y.message = bits_some y.message some_y in
      (max x.moment y.moment, record { from = omega arith; to = omega arith }, record { from = omega arith; to = omega arith })),
  (λ t.
      let a : x.moment ≤ t.0 = t.1.from in let b : t.0 < end_of x = t.1.to in
      let c : y.moment ≤ t.0 = t.2.from in let d : t.0 < end_of y = t.2.to in
      rw (lt-ltb x.moment (end_of y) (omega arith), lt-ltb y.moment (end_of x) (omega arith)) refl),
)

-- in a list ordered by moment, what is before an entry and what is behind it
ordered_drop : (R : Entry → Entry → Type 0) (n : ℕ) (list : List Entry) → IsOrdered R list → IsOrdered R (drop n list)
ordered_drop R zero list h = h
ordered_drop R (suc n) [] h = h
ordered_drop R (suc n) (x ∷ list) h = ordered_drop R n list h.1

all_at : {X : Type 0} (P : X → Type 0) → (xs : List X) (k : ℕ) (x : X) → AllByRecursion P xs → slice_get xs k ≡ Some x → P x
all_at P [] k x h e = cc
all_at P (y ∷ ys) zero x h e = let same : y ≡ x = cc in subst P same h.0
all_at P (y ∷ ys) (suc k) x h e = all_at P ys k x h.1 e

all_drop : {X : Type 0} (P : X → Type 0) → (n : ℕ) (xs : List X) → AllByRecursion P xs → AllByRecursion P (drop n xs)
all_drop P zero xs h = h
all_drop P (suc n) [] h = h
all_drop P (suc n) (x ∷ xs) h = all_drop P n xs h.1

pub ordered_before : (R : Entry → Entry → Type 0) (list : List Entry) (k : ℕ) (x : Entry) → IsOrdered R list → slice_get list k ≡ Some x → AllByRecursion (λ y. R y x) (take k list)
ordered_before R [] k x h e = cc
ordered_before R (y ∷ list) zero x h e = tt
ordered_before R (y ∷ list) (suc k) x h e = (all_at (R y) list k x h.0 e, ordered_before R list k x h.1 e)

pub ordered_behind : (R : Entry → Entry → Type 0) (list : List Entry) (k : ℕ) (x : Entry) → IsOrdered R list → slice_get list k ≡ Some x → AllByRecursion (R x) (drop (suc k) list)
ordered_behind R [] k x h e = cc
ordered_behind R (y ∷ list) zero x h e = let same : y ≡ x = cc in subst (λ w. AllByRecursion (R w) list) same h.0
ordered_behind R (y ∷ list) (suc k) x h e = ordered_behind R list k x h.1 e

-- the first behind an entry is the next
pub slice_get_drop : {X : Type 0} → (xs : List X) (k : ℕ) → slice_get (drop k xs) 0 ≡ slice_get xs k
slice_get_drop xs zero = refl
slice_get_drop [] (suc k) = refl
slice_get_drop (x ∷ xs) (suc k) = slice_get_drop xs k

-- once the next begins at the end of an entry or later, so do all behind it
none_later : (x : Entry) (zs : List Entry) (m : ℕ) → end_of x ≤ m → AllByRecursion (λ z. m ≤ z.moment) zs → list_any (overlaps x) zs ≡ false
none_later x [] m h a = refl
none_later x (z ∷ zs) m h a =
    let late : m ≤ z.moment = a.0 in
    let apart : overlaps x z ≡ false = rw (le-ltb z.moment (end_of x) (omega arith)) (elim (ltb x.moment (end_of z)) as (λ b. (b && false) ≡ false) [ true ↦ refl | false ↦ refl ]) in
    rw apart (none_later x zs m h a.1)

pub later_first : (x : Entry) (zs : List Entry) → AllByRecursion (λ z. x.moment ≤ z.moment) zs → IsByMoment zs → ((z : Entry) → slice_get zs 0 ≡ Some z → HasWords z) → list_any (overlaps x) zs ≡ option_map_or (overlaps x) (slice_get zs 0) false
later_first x [] late order some = refl
later_first x (z ∷ zs) late order some =
    let from : x.moment ≤ z.moment = late.0 in
    let bits_z : 0 < bits z.message = bits_some z.message (some z refl) in
    let begun : ltb x.moment (end_of z) ≡ true = lt-ltb x.moment (end_of z) (omega arith) in
    elim (cases_lt z.moment (end_of x)) [
      | inl meets ↦ rw (begun, lt-ltb z.moment (end_of x) meets) refl
      | inr apart ↦ rw (begun, le-ltb z.moment (end_of x) apart) (none_later x zs z.moment apart order.0)
    ]

-- an entry of the list, at what the code looks at
pub garbled_at : (list : List Entry) (k : ℕ) (x : Entry) → IsByMoment list → slice_get list k ≡ Some x → ((z : Entry) → slice_get (drop (suc k) list) 0 ≡ Some z → HasWords z)
    → garbled list k ≡ (list_any (overlaps x) (take k list) || option_map_or (overlaps x) (slice_get (drop (suc k) list) 0) false)
garbled_at list k x order at some =
    ap (λ o. option_map_or (λ w. list_any (overlaps w) (take k list ++ drop (suc k) list)) o false) at
    ∙ list_any-append (overlaps x) (take k list) (drop (suc k) list)
    ∙ ap (λ b. list_any (overlaps x) (take k list) || b) (later_first x (drop (suc k) list) (ordered_behind (λ v w. v.moment ≤ w.moment) list k x order at) (ordered_drop (λ v w. v.moment ≤ w.moment) (suc k) list order) some)

-- the same, where the next entry was looked up
pub garbled_next : (list : List Entry) (k : ℕ) (x : Entry) (o : Option Entry) (r : Bool) → IsByMoment list → slice_get list k ≡ Some x → slice_get list (k + 1) ≡ o → ((z : Entry) → o ≡ Some z → HasWords z) → r ≡ option_map_or (overlaps x) o false
    → garbled list k ≡ (list_any (overlaps x) (take k list) || r)
garbled_next list k x o r order at next some told =
    let behind : slice_get (drop (suc k) list) 0 ≡ o = slice_get_drop list (suc k) ∙ ap (slice_get list) (let e : suc k ≡ k + 1 = omega arith in e) ∙ next in
    garbled_at list k x order at (λ z e. some z (sym behind ∙ e)) ∙ ap (λ b. list_any (overlaps x) (take k list) || b) (ap (λ w. option_map_or (overlaps x) w false) behind ∙ sym told)

pub garbled_by_next : (list : List Entry) (k : ℕ) (x : Entry) (r : Bool) → garbled list k ≡ (list_any (overlaps x) (take k list) || r) → r ≡ true → garbled list k ≡ true
garbled_by_next list k x r told true_is = told ∙ ap (λ b. list_any (overlaps x) (take k list) || b) true_is ∙ or_right (list_any (overlaps x) (take k list)) true refl

pub garbled_by_earlier : (list : List Entry) (k : ℕ) (x : Entry) (r : Bool) → garbled list k ≡ (list_any (overlaps x) (take k list) || r) → r ≡ false → garbled list k ≡ list_any (overlaps x) (take k list)
garbled_by_earlier list k x r told false_is = told ∙ ap (λ b. list_any (overlaps x) (take k list) || b) false_is ∙ or_false (list_any (overlaps x) (take k list))

-- earlier entries overlap it where they end behind its moment
earlier_end : (x : Entry) (ys : List Entry) → HasWords x → AllByRecursion (λ y. y.moment ≤ x.moment) ys → list_any (overlaps x) ys ≡ list_any (λ y. ltb x.moment (end_of y)) ys
earlier_end x [] some h = refl
earlier_end x (y ∷ ys) some h =
    let from : y.moment ≤ x.moment = h.0 in
    let bits_x : 0 < bits x.message = bits_some x.message some in
    let begun : ltb y.moment (end_of x) ≡ true = lt-ltb y.moment (end_of x) (omega arith) in
    let here : overlaps x y ≡ ltb x.moment (end_of y) = rw begun (elim (ltb x.moment (end_of y)) as (λ b. (b && true) ≡ b) [ true ↦ refl | false ↦ refl ]) in
    ap (λ b. b || list_any (overlaps x) ys) here ∙ ap (λ b. ltb x.moment (end_of y) || b) (earlier_end x ys some h.1)

pub neighbours_tell : NeighboursTell
neighbours_tell list k x order words at =
    let some : HasWords x = all_at HasWords list k x words at in
    let bits_x : 0 < bits x.message = bits_some x.message some in
    let next_some : (z : Entry) → slice_get (drop (suc k) list) 0 ≡ Some z → HasWords z = λ z e. all_at HasWords (drop (suc k) list) 0 z (all_drop HasWords (suc k) list words) e in
    let at_next : slice_get (drop (suc k) list) 0 ≡ slice_get list (k + 1) = slice_get_drop list (suc k) ∙ ap (slice_get list) (let e : suc k ≡ k + 1 = omega arith in e) in
    let late : AllByRecursion (λ z. x.moment ≤ z.moment) (drop (suc k) list) = ordered_behind (λ v w. v.moment ≤ w.moment) list k x order at in
    let next : (o : Option Entry) → slice_get (drop (suc k) list) 0 ≡ o → option_map_or (overlaps x) o false ≡ option_map_or (λ y. ltb y.moment (end_of x)) o false = λ o. elim o as (λ o. slice_get (drop (suc k) list) 0 ≡ o → option_map_or (overlaps x) o false ≡ option_map_or (λ y. ltb y.moment (end_of x)) o false) [
      | None ↦ λ e. refl
      | Some z ↦ λ e.
          let from : x.moment ≤ z.moment = all_at (λ w. x.moment ≤ w.moment) (drop (suc k) list) 0 z late e in
          let bits_z : 0 < bits z.message = bits_some z.message (next_some z e) in
          rw (lt-ltb x.moment (end_of z) (let l : x.moment < end_of z = omega arith in l)) refl
    ] in
    garbled_at list k x order at next_some
    ∙ ap (λ b. b || option_map_or (overlaps x) (slice_get (drop (suc k) list) 0) false) (earlier_end x (take k list) some (ordered_before (λ v w. v.moment ≤ w.moment) list k x order at))
    ∙ ap (λ b. list_any (λ y. ltb x.moment (end_of y)) (take k list) || b) (next (slice_get (drop (suc k) list) 0) refl ∙ ap (λ o. option_map_or (λ y. ltb y.moment (end_of x)) o false) at_next)

pub behind_by_moment : (x : Entry) (ys : List Entry) → AllByRecursion (Precedes x) ys → AllByRecursion (λ y. x.moment ≤ y.moment) ys
behind_by_moment x [] h = tt
behind_by_moment x (y ∷ ys) h = (elim h.0 [ inl less ↦ omega arith | inr same ↦ let e : x.moment ≡ y.moment = same.0 in omega arith ], behind_by_moment x ys h.1)

pub ascending_is_by_moment : AscendingIsByMoment
ascending_is_by_moment [] h = tt
ascending_is_by_moment (x ∷ list) h = (behind_by_moment x list h.0, ascending_is_by_moment list h.1)

or_around : (a b c : Bool) → ((a || b) || c) ≡ (b || (a || c))
or_around true true c = refl
or_around true false c = refl
or_around false b c = refl

-- behind a moment lies one of two where the greater does
behind_either : (m a b : ℕ) → (ltb m a || ltb m b) ≡ ltb m (max b a)
behind_either m a b = elim (cases_lt m a) [
  | inl here ↦ rw (lt-ltb m a here) (sym (lt-ltb m (max b a) (omega arith)))
  | inr not ↦ rw (le-ltb m a not) (elim (cases_lt m b) [
    | inl there ↦ lt-ltb m b there ∙ sym (lt-ltb m (max b a) (omega arith))
    | inr none ↦ le-ltb m b none ∙ sym (le-ltb m (max b a) (omega arith))
  ])
]

-- a transmission ends behind a moment where the last to end does, here beside an earlier end
ends_behind_from : (m e : ℕ) (ys : List Entry) → (list_any (λ y. ltb m (end_of y)) ys || ltb m e) ≡ ltb m (fold (λ end y. max end (end_of y)) e ys)
ends_behind_from m e [] = refl
ends_behind_from m e (y ∷ ys) =
    or_around (ltb m (end_of y)) (list_any (λ z. ltb m (end_of z)) ys) (ltb m e)
    ∙ ap (λ b. list_any (λ z. ltb m (end_of z)) ys || b) (behind_either m (end_of y) e)
    ∙ ends_behind_from m (max e (end_of y)) ys

ends_behind : (m : ℕ) (ys : List Entry) → list_any (λ y. ltb m (end_of y)) ys ≡ ltb m (greatest_end ys)
ends_behind m ys = sym (or_false (list_any (λ y. ltb m (end_of y)) ys)) ∙ ap (λ b. list_any (λ y. ltb m (end_of y)) ys || b) (sym (le-ltb m 0 (omega arith))) ∙ ends_behind_from m 0 ys

-- what the walk looks at
pub earlier_told : (list : List Entry) (k : ℕ) (x : Entry) → IsByMoment list → slice_get list k ≡ Some x → HasWords x → list_any (overlaps x) (take k list) ≡ ltb x.moment (greatest_end (take k list))
earlier_told list k x order at some = earlier_end x (take k list) some (ordered_before (λ v w. v.moment ≤ w.moment) list k x order at) ∙ ends_behind x.moment (take k list)

-- one entry further
pub greatest_more : (list : List Entry) (k : ℕ) (x : Entry) → slice_get list k ≡ Some x → greatest_end (take (k + 1) list) ≡ max (greatest_end (take k list)) (end_of x)
greatest_more list k x at =
    let within : k < length list = slice_get_within list k x at in
    ap greatest_end (take_more list k x within ∙ ap (λ y. take k list ++ y ∷ []) (get_or_from_slice_get list k x x at))
    ∙ fold-append (λ end y. max end (end_of y)) 0 (take k list) (x ∷ [])

pub marks_more : (list : List Entry) (k : ℕ) → k < length list → drop k (marks list) ≡ garbled list k ∷ drop (k + 1) (marks list)
marks_more list k h =
    let long : length (marks list) ≡ length list = length-map-range_with_len (garbled list) 0 (length list) in
    drop-cons (marks list) k false (omega arith)
    ∙ ap (λ b. b ∷ drop (suc k) (marks list)) (get_or-map-range_with_len (garbled list) 0 (length list) k k false h (omega arith))
    ∙ ap (λ n. garbled list k ∷ drop n (marks list)) (let e : suc k ≡ k + 1 = omega arith in e)

pub marks_end : (list : List Entry) (k : ℕ) → length list ≤ k → drop k (marks list) ≡ []
marks_end list k h = drop_of_length-le (marks list) (let long : length (marks list) ≡ length list = length-map-range_with_len (garbled list) 0 (length list) in omega arith)

-- one entry more, which none of the others is behind
pub ordered_push : (R : Entry → Entry → Type 0) (list : List Entry) (x : Entry) → IsOrdered R list → AllByRecursion (λ y. R y x) list → IsOrdered R (list ++ x ∷ [])
ordered_push R [] x h a = (tt, tt)
ordered_push R (y ∷ list) x h a = (all_push (R y) list x h.0 a.0, ordered_push R list x h.1 a.1)

-- what a loop knows that has found the first i transmissions of a list in order, the latest of them at this moment
pub record IsInOrderSoFar (list : List Entry) (i latest : ℕ) : Type 0 where
  pub order : IsByMoment (take i list)
  pub most : AllByRecursion (λ y. y.moment ≤ latest) (take i list)
  pub later : (k : ℕ) (x : Entry) → i ≤ k → slice_get list k ≡ Some x → IsByMoment list → latest ≤ x.moment

pub none_so_far : (list : List Entry) → IsInOrderSoFar list 0 0
none_so_far list = record { order = tt; most = tt; later = λ k x from at order. omega arith }

weaker : (m n : ℕ) (list : List Entry) → m ≤ n → AllByRecursion (λ y. y.moment ≤ m) list → AllByRecursion (λ y. y.moment ≤ n) list
weaker m n [] h a = tt
weaker m n (x ∷ list) h a = ((let k : x.moment ≤ m = a.0 in omega arith), weaker m n list h a.1)

all_from : {X : Type 0} (P : X → Type 0) → (xs : List X) (n k : ℕ) (x : X) → AllByRecursion P (drop n xs) → n ≤ k → slice_get xs k ≡ Some x → P x
all_from P xs zero k x a h e = all_at P xs k x a e
all_from P [] (suc n) k x a h e = cc
all_from P (y ∷ xs) (suc n) zero x a h e = absurd (omega arith)
all_from P (y ∷ xs) (suc n) (suc k) x a h e = all_from P xs n k x a (omega arith) e

pub one_more_so_far : (list : List Entry) (i latest : ℕ) (x : Entry) → slice_get list i ≡ Some x → IsInOrderSoFar list i latest → latest ≤ x.moment → IsInOrderSoFar list (i + 1) x.moment
one_more_so_far list i latest x at s h =
    let within : i < length list = slice_get_within list i x at in
    let next : take (i + 1) list ≡ take i list ++ x ∷ [] = take_more list i x within ∙ ap (λ y. take i list ++ y ∷ []) (get_or_from_slice_get list i x x at) in
    let most : AllByRecursion (λ y. y.moment ≤ x.moment) (take i list) = weaker latest x.moment (take i list) h s.most in
    record {
      order = subst IsByMoment (sym next) (ordered_push (λ v w. v.moment ≤ w.moment) (take i list) x s.order most);
      most = subst (AllByRecursion (λ y. y.moment ≤ x.moment)) (sym next) (all_push (λ y. y.moment ≤ x.moment) (take i list) x most (omega arith));
      later = λ k y from y_at order. all_from (λ z. x.moment ≤ z.moment) list (suc i) k y (ordered_behind (λ v w. v.moment ≤ w.moment) list i x order at) (omega arith) y_at;
    }
