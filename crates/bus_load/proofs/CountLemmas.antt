-- How many bit times of a stretch of time there are in stretches that are apart.
use Rattle.std.proofs.Common.{◌≡◌, ℕ, zero, suc, ◌+◌, ◌-◌, ◌<◌, ◌≤◌, Bool, true, false, cond, ◌&&◌, ◌||◌, ltb, leb, max, min, List, [], ◌∷◌, length, take, drop}
use Rattle.std.proofs.Common.{get_or, inl, inr, arith, sym, refl, ap, ◌∙◌, subst}
use Rattle.std.specs.List.{AllByRecursion, count_by, range_with_len, sum_by}
use Rattle.std.specs.List.Sorted.{IsNonDecreasingBy}
use Rattle.std.proofs.lemmas.Bool.{cases_lt, lt-ltb, le-ltb, le-leb, lt-leb, ltb-true, and_parts}
use Rattle.std.proofs.lemmas.List.{length-drop, take_all}
use Rattle.std.proofs.lemmas.List.FromFn.{length-range_with_len}
use Rattle.std.proofs.lemmas.List.Sums.{count_by-le-length, sum_by-cons, sum_by_more_le, sum_by-take-drop}
use Rattle.std.proofs.Math.Seq.{drop-cons}
use Rattle.std.proofs.Math.ListN.{drop_of_length-le}
use Rattle.bus_strings.specs.Messages.{Entry}
use Rattle.bus_strings.specs.Transmissions.{carrier}
use Rattle.bus_load.specs.Loads.{Stretch, AreApart, IsCarrierOf, carrier_bits, has, is_within}

-- how many bit times of a stretch there are from one on, up to another
abbrev pub part_of : ℕ → ℕ → Stretch → ℕ
part_of from to s = min s.to to - max s.from from

-- one, or none
abbrev pub once : Bool → ℕ
once b = cond b 1 0

-- one bit time
has_once : (s : Stretch) (a to : ℕ) → a < to → part_of a to s ≡ once (has a s) + part_of (a + 1) to s
has_once s a to h =
    elim (cases_lt a s.from) [
      | inl before ↦ let none : once (has a s) ≡ 0 = ap (λ b. once (b && ltb a s.to)) (lt-leb s.from a before) in omega arith
      | inr begun ↦ elim (cases_lt a s.to) [
        | inl inside ↦
            let one : once (has a s) ≡ 1 = ap (λ b. once (b && ltb a s.to)) (le-leb s.from a begun) ∙ ap once (lt-ltb a s.to inside) in omega arith
        | inr behind ↦
            let none : once (has a s) ≡ 0 = ap (λ b. once (b && ltb a s.to)) (le-leb s.from a begun) ∙ ap once (le-ltb a s.to behind) in omega arith
      ]
    ]

-- one stretch
count_one : (s : Stretch) (a n : ℕ) → count_by (λ t. has t s) (range_with_len a n) ≡ part_of a (a + n) s
count_one s a zero = let none : 0 ≡ part_of a (a + 0) s = omega arith in none
count_one s a (suc n) =
    let rest : count_by (λ t. has t s) (range_with_len (a + 1) n) ≡ part_of (a + 1) (a + suc n) s =
    count_one s (a + 1) n ∙ ap (λ to. part_of (a + 1) to s) (let e : a + 1 + n ≡ a + suc n = omega arith in e) in
    sum_by-cons (λ t. once (has t s)) a (range_with_len (a + 1) n) ∙ ap (λ k. once (has a s) + k) rest ∙ sym (has_once s a (a + suc n) (omega arith))

-- two tests of which no number passes both
add_either : (a b : Bool) → (a ≡ true → b ≡ false) → cond (a || b) 1 0 ≡ cond a 1 0 + cond b 1 0
add_either true b h = rw (h refl) refl
add_either false true h = refl
add_either false false h = refl

count_either : (p q : ℕ → Bool) → ((t : ℕ) → p t ≡ true → q t ≡ false) → (ts : List ℕ) → count_by (λ t. p t || q t) ts ≡ count_by p ts + count_by q ts
count_either p q h [] = refl
count_either p q h (t ∷ ts) =
    let e : count_by (λ t. p t || q t) (t ∷ ts) ≡ cond (p t || q t) 1 0 + count_by (λ t. p t || q t) ts = sum_by-cons (λ t. cond (p t || q t) 1 0) t ts in
    let f : count_by p (t ∷ ts) ≡ cond (p t) 1 0 + count_by p ts = sum_by-cons (λ t. cond (p t) 1 0) t ts in
    let g : count_by q (t ∷ ts) ≡ cond (q t) 1 0 + count_by q ts = sum_by-cons (λ t. cond (q t) 1 0) t ts in
    let here : cond (p t || q t) 1 0 ≡ cond (p t) 1 0 + cond (q t) 1 0 = add_either (p t) (q t) (h t) in
    let rest : count_by (λ t. p t || q t) ts ≡ count_by p ts + count_by q ts = count_either p q h ts in
    omega arith

-- two tests that say the same
count_same : (p q : ℕ → Bool) → ((t : ℕ) → p t ≡ q t) → (ts : List ℕ) → count_by p ts ≡ count_by q ts
count_same p q h [] = refl
count_same p q h (t ∷ ts) =
    sum_by-cons (λ t. cond (p t) 1 0) t ts ∙ ap (λ b. cond b 1 0 + count_by p ts) (h t) ∙ ap (λ n. cond (q t) 1 0 + n) (count_same p q h ts)
    ∙ sym (sum_by-cons (λ t. cond (q t) 1 0) t ts)

count_none : (ts : List ℕ) → count_by (λ t. false) ts ≡ 0
count_none [] = refl
count_none (t ∷ ts) = sum_by-cons (λ (t : ℕ). 0) t ts ∙ ap (λ n. 0 + n) (count_none ts)

-- no later stretch has a bit time of one
later_without : (t m : ℕ) (ss : List Stretch) → t < m → AllByRecursion (λ (next : Stretch). m < next.from) ss → is_within ss t ≡ false
later_without t m [] h all = refl
later_without t m (s ∷ ss) h all =
    let late : m < s.from = all.0 in
    rw (lt-leb s.from t (let e : t < s.from = omega arith in e)) (later_without t m ss h all.1)

not_twice : (s : Stretch) (ss : List Stretch) → AreApart (s ∷ ss) → (t : ℕ) → has t s ≡ true → is_within ss t ≡ false
not_twice s ss h t e = later_without t s.to ss (ltb-true t s.to (and_parts (leb s.from t) (ltb t s.to) e).1) h.1

pub count_parts : (ss : List Stretch) (a n : ℕ) → AreApart ss → count_by (is_within ss) (range_with_len a n) ≡ sum_by (part_of a (a + n)) ss
count_parts [] a n h = count_none (range_with_len a n)
count_parts (s ∷ ss) a n h =
    count_either (λ t. has t s) (is_within ss) (not_twice s ss h) (range_with_len a n)
    ∙ ap (λ k. k + count_by (is_within ss) (range_with_len a n)) (count_one s a n)
    ∙ ap (λ k. part_of a (a + n) s + k) (count_parts ss a n h.2)
    ∙ sym (sum_by-cons (part_of a (a + n)) s ss)

-- the same, up to any bit time
part_same : (from to : ℕ) (s : Stretch) → part_of from (from + (to - from)) s ≡ part_of from to s
part_same from to s = omega arith

sum_same : (from to : ℕ) (ss : List Stretch) → sum_by (part_of from (from + (to - from))) ss ≡ sum_by (part_of from to) ss
sum_same from to [] = refl
sum_same from to (s ∷ ss) =
    sum_by-cons (part_of from (from + (to - from))) s ss ∙ ap (λ n. n + sum_by (part_of from (from + (to - from))) ss) (part_same from to s)
    ∙ ap (λ n. part_of from to s + n) (sum_same from to ss) ∙ sym (sum_by-cons (part_of from to) s ss)

count_up_to : (ss : List Stretch) (from to : ℕ) → AreApart ss → count_by (is_within ss) (range_with_len from (to - from)) ≡ sum_by (part_of from to) ss
count_up_to ss from to h = count_parts ss from (to - from) h ∙ sum_same from to ss

pub sum_low : (ss : List Stretch) (from to : ℕ) → AreApart ss → sum_by (part_of from to) ss ≤ to - from
sum_low ss from to h = omega (arith, count_up_to ss from to h, count_by-le-length (is_within ss) (range_with_len from (to - from)), length-range_with_len from (to - from))

-- those that end before it, and those that begin behind it, have none
pub front_none : (ss : List Stretch) (n from to : ℕ) → ((k : ℕ) (d : Stretch) → k < n → (get_or ss k d).to ≤ from) → sum_by (part_of from to) (take n ss) ≡ 0
front_none [] zero from to h = refl
front_none [] (suc n) from to h = refl
front_none (s ∷ ss) zero from to h = refl
front_none (s ∷ ss) (suc n) from to h =
    let first : s.to ≤ from = h 0 s (omega arith) in
    let none : part_of from to s ≡ 0 = omega arith in
    let rest : sum_by (part_of from to) (take n ss) ≡ 0 = front_none ss n from to (λ k d l. h (suc k) d (omega arith)) in
    omega (arith, sum_by-cons (part_of from to) s (take n ss))

all_behind_none : (ss : List Stretch) (m from to : ℕ) → to ≤ m → AllByRecursion (λ (next : Stretch). m < next.from) ss → sum_by (part_of from to) ss ≡ 0
all_behind_none [] m from to k h = refl
all_behind_none (s ∷ ss) m from to k h =
    let late : m < s.from = h.0 in
    let none : part_of from to s ≡ 0 = omega arith in
    let rest : sum_by (part_of from to) ss ≡ 0 = all_behind_none ss m from to k h.1 in
    omega (arith, sum_by-cons (part_of from to) s ss)

behind_none : (s : Stretch) (ss : List Stretch) (from to : ℕ) → to ≤ s.from → AreApart (s ∷ ss) → sum_by (part_of from to) (s ∷ ss) ≡ 0
behind_none s ss from to k h =
    let some : s.from < s.to = h.0 in
    let none : part_of from to s ≡ 0 = omega arith in
    let rest : sum_by (part_of from to) ss ≡ 0 = all_behind_none ss s.to from to (omega arith) h.1 in
    omega (arith, sum_by-cons (part_of from to) s ss)

pub apart_drop : (n : ℕ) (ss : List Stretch) → AreApart ss → AreApart (drop n ss)
apart_drop zero ss h = h
apart_drop (suc n) [] h = h
apart_drop (suc n) (s ∷ ss) h = apart_drop n ss h.2

back_none : (ss : List Stretch) (i from to : ℕ) (d : Stretch) → i < length ss → to ≤ (get_or ss i d).from → AreApart ss → sum_by (part_of from to) (drop i ss) ≡ 0
back_none ss i from to d h late apart =
    let is : drop i ss ≡ get_or ss i d ∷ drop (suc i) ss = drop-cons ss i d h in
    ap (sum_by (part_of from to)) is ∙ behind_none (get_or ss i d) (drop (suc i) ss) from to late (subst AreApart is (apart_drop i ss apart))

-- the ends of stretches that are apart
ends_later : (m : ℕ) (ss : List Stretch) → AllByRecursion (λ (next : Stretch). m < next.from) ss → AreApart ss → (j : ℕ) (d : Stretch) → j < length ss → m ≤ (get_or ss j d).to
ends_later m [] all h j d l = absurd (omega arith)
ends_later m (s ∷ ss) all h zero d l = let a : m < s.from = all.0 in let b : s.from < s.to = h.0 in omega arith
ends_later m (s ∷ ss) all h (suc j) d l = ends_later m ss all.1 h.2 j d (omega arith)

pub ends_ascend : (ss : List Stretch) → AreApart ss → IsNonDecreasingBy (λ (s : Stretch). s.to) ss
ends_ascend [] h i j d k l = absurd (omega arith)
ends_ascend (s ∷ ss) h zero zero d k l = omega arith
ends_ascend (s ∷ ss) h zero (suc j) d k l = ends_later s.to ss h.1 h.2 j d (omega arith)
ends_ascend (s ∷ ss) h (suc i) zero d k l = absurd (omega arith)
ends_ascend (s ∷ ss) h (suc i) (suc j) d k l = ends_ascend ss h.2 i j d (omega arith) (omega arith)

-- what is behind a number of them
pub rest_is : (n : ℕ) (ss : List Stretch) → take (length ss - n) (drop n ss) ≡ drop n ss
rest_is n ss = take_all (length ss - n) (drop n ss) (omega (arith, length-drop n ss))

-- with one more of these there are no more than all
pub sum_fits : (ss items : List Stretch) (n i from to bits part : ℕ) (d : Stretch) → AreApart ss → items ≡ drop n ss → i < length items
    → bits ≡ sum_by (part_of from to) (take i items) → part ≡ part_of from to (get_or items i d) → bits + part ≤ to
sum_fits ss items n i from to bits part d h is l so one =
    let few : sum_by (part_of from to) (take i items) + part_of from to (get_or items i d) ≤ sum_by (part_of from to) items
    = sum_by_more_le (part_of from to) items i d l in
    let same : sum_by (part_of from to) items ≡ sum_by (part_of from to) (drop n ss) = ap (sum_by (part_of from to)) is in
    let all : sum_by (part_of from to) (take n ss) + sum_by (part_of from to) (drop n ss) ≡ sum_by (part_of from to) ss
    = sum_by-take-drop (part_of from to) ss n in
    let low : sum_by (part_of from to) ss ≤ to - from = sum_low ss from to h in
    omega arith

-- the whole, of which a front and a back have none
all_counted : (ss items : List Stretch) (list : List Entry) (n i from to bits : ℕ) → IsCarrierOf ss list → items ≡ drop n ss
    → ((k : ℕ) (d : Stretch) → k < n → (get_or ss k d).to ≤ from)
    → sum_by (part_of from to) (drop i items) ≡ 0 → bits ≡ sum_by (part_of from to) (take i items) → bits ≡ carrier_bits list from to
all_counted ss items list n i from to bits is same front back so =
    let none : sum_by (part_of from to) (take n ss) ≡ 0 = front_none ss n from to front in
    let one : sum_by (part_of from to) (take n ss) + sum_by (part_of from to) (drop n ss) ≡ sum_by (part_of from to) ss
    = sum_by-take-drop (part_of from to) ss n in
    let two : sum_by (part_of from to) (take i items) + sum_by (part_of from to) (drop i items) ≡ sum_by (part_of from to) items
    = sum_by-take-drop (part_of from to) items i in
    let three : sum_by (part_of from to) items ≡ sum_by (part_of from to) (drop n ss) = ap (sum_by (part_of from to)) same in
    let whole : bits ≡ sum_by (part_of from to) ss = omega arith in
    whole ∙ sym (count_up_to ss from to is.apart) ∙ count_same (is_within ss) (carrier list) is.within (range_with_len from (to - from))

pub counted_to_the_end : (ss items : List Stretch) (list : List Entry) (n i from to bits : ℕ) → IsCarrierOf ss list → items ≡ drop n ss
    → ((k : ℕ) (d : Stretch) → k < n → (get_or ss k d).to ≤ from)
    → length items ≤ i → bits ≡ sum_by (part_of from to) (take i items) → bits ≡ carrier_bits list from to
counted_to_the_end ss items list n i from to bits is same front past so =
    all_counted ss items list n i from to bits is same front (ap (sum_by (part_of from to)) (drop_of_length-le items {i = i} past)) so

pub counted_to_one_behind : (ss items : List Stretch) (list : List Entry) (n i from to bits : ℕ) (d : Stretch) → IsCarrierOf ss list → items ≡ drop n ss
    → ((k : ℕ) (d : Stretch) → k < n → (get_or ss k d).to ≤ from)
    → i < length items → to ≤ (get_or items i d).from → bits ≡ sum_by (part_of from to) (take i items) → bits ≡ carrier_bits list from to
counted_to_one_behind ss items list n i from to bits d is same front l late so =
    all_counted ss items list n i from to bits is same front
    (back_none items i from to d l late (subst AreApart (sym same) (apart_drop n ss is.apart))) so
