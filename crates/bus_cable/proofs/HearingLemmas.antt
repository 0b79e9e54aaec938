-- What is heard, in order: where each stands, and what is heard next.
use Rattle.std.proofs.Common.{arith, ◌≡◌, ◌≢◌, ◌⊎◌, inl, inr, ℕ, zero, suc, ◌+◌, ◌*◌, ◌^◌, ◌<◌, ◌≤◌, Bool, true, false, cond, not, ◌&&◌, ◌||◌, ◌==◌, List, [], ◌∷◌, ◌++◌, length, map, take, Option, Some, None, refl, sym, ap, subst, ◌∙◌, codes, append_assoc}
use Rattle.std.specs.Prelude.{slice_get, nat_lt}
use Rattle.std.specs.List.{flat_map, zip, AllByRecursion}
use Rattle.std.specs.Option.{option_map, option_map_or}
use Rattle.std.proofs.lemmas.Bool.{cases_lt, lt-ltb, le-ltb, ltb-true, eq-eqb, ne_eqb, cases_eq}
use Rattle.std.proofs.lemmas.Option.{slice_get_within, slice_get-map}
use Rattle.std.proofs.lemmas.List.{length-map}
use Rattle.bus_strings.specs.Members.{In}
use Rattle.bus_strings.specs.Messages.{Entry, bits}
use Rattle.bus_strings.specs.Marking.{greatest_end}
use Rattle.bus_strings.specs.Transmissions.{end_of, overlaps, garbled, marks, Precedes, IsOrdered, IsByMoment, IsAscending, IsTransmission}
use Rattle.bus_strings.proofs.ListLaws.{first_left, flat_map-passing, flat_map-map, some_at}
use Rattle.bus_strings.proofs.MemberLaws.{of_each, all_in, at_in, in_at}
use Rattle.bus_strings.proofs.MessageLaws.{bits_some}
use Rattle.bus_strings.proofs.OverlapLemmas.{garbled_next, earlier_told, marks_more}
use Rattle.bus_medium.specs.Delays.{Delays, cable, distance, later, heard}
use Rattle.bus_cable.specs.Hearing.{is_before, put_in, in_order, hearing, is_of_another, hearings}
use Rattle.bus_table.specs.Tables.{Sender, Listener, Table}
use Rattle.std.proofs.lemmas.List.Concat.{flat_map-append}
use Rattle.bus_cable.specs.HeardTexts.{hearing_line, terminal_text, heard_text}
use Rattle.bus_cable.specs.inside.Ranks.{rank, rank_in, IsFirst, IsFirstSoFar, marked_put, heard_put, heard_as, sender_heard, listener_heard}

-- ---- ranks
abbrev pub IsSmall : Entry → Type 0
IsSmall x = x.terminal < 256

-- what is heard before has the lesser rank
pub before_rank : (x y : Entry) → IsSmall x → IsSmall y → is_before x y ≡ nat_lt (rank x) (rank y)
before_rank x y a b = elim (cases_lt x.moment y.moment) [
  | inl less ↦ rw (lt-ltb x.moment y.moment less) (sym (lt-ltb (rank x) (rank y) (omega (arith, a))))
  | inr not_less ↦ rw (le-ltb x.moment y.moment not_less) (elim (cases_eq x.moment y.moment) [
    | inl same ↦ rw (eq-eqb x.moment y.moment same) (elim (cases_lt x.terminal y.terminal) [
      | inl lower ↦ lt-ltb x.terminal y.terminal lower ∙ sym (lt-ltb (rank x) (rank y) (omega arith))
      | inr higher ↦ le-ltb x.terminal y.terminal higher ∙ sym (le-ltb (rank x) (rank y) (omega arith))
    ])
    | inr other ↦ rw (ne_eqb x.moment y.moment other) (sym (le-ltb (rank x) (rank y) (let later : y.moment < x.moment = omega (arith, not_less, other) in omega (arith, b))))
  ])
]

-- ---- lists that are put in order
pub all_put_in : (P : Entry → Type 0) (x : Entry) (ys : List Entry) → P x → AllByRecursion P ys → AllByRecursion P (put_in x ys)
all_put_in P x [] p h = (p, tt)
all_put_in P x (y ∷ ys) p h = by_test (is_before y x) (all_put_in P x ys p h.1) where
  by_test : (t : Bool) → AllByRecursion P (put_in x ys) → AllByRecursion P (cond t (y ∷ put_in x ys) (x ∷ y ∷ ys))
  by_test true k = (h.0, k)
  by_test false k = (p, h)

pub all_in_order : (P : Entry → Type 0) (xs : List Entry) → AllByRecursion P xs → AllByRecursion P (in_order xs)
all_in_order P [] h = tt
all_in_order P (x ∷ xs) h = all_put_in P x (in_order xs) h.0 (all_in_order P xs h.1)

in_put_in : (x : Entry) (ys : List Entry) (z : Entry) → In z (x ∷ ys) → In z (put_in x ys)
in_put_in x [] z h = h
in_put_in x (y ∷ ys) z h = by_test (is_before y x) h (λ k. in_put_in x ys z k) where
  by_test : (t : Bool) → In z (x ∷ y ∷ ys) → (In z (x ∷ ys) → In z (put_in x ys)) → In z (cond t (y ∷ put_in x ys) (x ∷ y ∷ ys))
  by_test true (inl same) k = inr (k (inl same))
  by_test true (inr (inl same)) k = inl same
  by_test true (inr (inr i)) k = inr (k (inr i))
  by_test false i k = i

-- who is heard is in order, and who is in order is heard
pub to_order : (xs : List Entry) (z : Entry) → In z xs → In z (in_order xs)
to_order [] z h = h
to_order (x ∷ xs) z (inl same) = in_put_in x (in_order xs) z (inl same)
to_order (x ∷ xs) z (inr i) = in_put_in x (in_order xs) z (inr (to_order xs z i))

pub from_order : (xs : List Entry) (z : Entry) → In z (in_order xs) → In z xs
from_order xs z h = of_each (λ w. In w xs) (in_order xs) (all_in_order (λ w. In w xs) xs (all_in (λ w. In w xs) xs (λ w i. i))) z h

length-put_in : (x : Entry) (ys : List Entry) → length (put_in x ys) ≡ suc (length ys)
length-put_in x [] = refl
length-put_in x (y ∷ ys) = by_test (is_before y x) (length-put_in x ys) where
  by_test : (t : Bool) → length (put_in x ys) ≡ suc (length ys) → length (cond t (y ∷ put_in x ys) (x ∷ y ∷ ys)) ≡ suc (suc (length ys))
  by_test true k = ap suc k
  by_test false k = refl

pub length-in_order : (xs : List Entry) → length (in_order xs) ≡ length xs
length-in_order [] = refl
length-in_order (x ∷ xs) = length-put_in x (in_order xs) ∙ ap suc (length-in_order xs)

-- ---- strictly in order
abbrev pub IsRanked : List Entry → Type 0
IsRanked list = IsOrdered (λ x y. rank x < rank y) list

abbrev pub AreApart : List Entry → Type 0
AreApart list = IsOrdered (λ x y. rank x ≢ rank y) list

all_less : (a b : ℕ) (ys : List Entry) → a < b → AllByRecursion (λ y. b < rank y) ys → AllByRecursion (λ y. a < rank y) ys
all_less a b [] h k = tt
all_less a b (y ∷ ys) h k = ((let first : b < rank y = k.0 in omega arith), all_less a b ys h k.1)

ranked_put_in : (x : Entry) (ys : List Entry) → IsSmall x → AllByRecursion IsSmall ys → AllByRecursion (λ y. rank x ≢ rank y) ys → IsRanked ys → IsRanked (put_in x ys)
ranked_put_in x [] s t a h = (tt, tt)
ranked_put_in x (y ∷ ys) s t a h = by_test (is_before y x) refl (ranked_put_in x ys s t.1 a.1 h.1) where
  by_test : (b : Bool) → is_before y x ≡ b → IsRanked (put_in x ys) → IsRanked (cond b (y ∷ put_in x ys) (x ∷ y ∷ ys))
  by_test true e k =
      let less : rank y < rank x = ltb-true (rank y) (rank x) (sym (before_rank y x t.0 s) ∙ e) in
      (all_put_in (λ z. rank y < rank z) x ys less h.0, k)
  by_test false e k = elim (cases_lt (rank y) (rank x)) [
    | inl less ↦ absurd (let w : true ≡ false = sym (lt-ltb (rank y) (rank x) less) ∙ sym (before_rank y x t.0 s) ∙ e in cc)
    | inr not_less ↦
        let apart : rank x ≢ rank y = a.0 in
        let less : rank x < rank y = omega (arith, not_less, apart) in
        ((less, all_less (rank x) (rank y) ys less h.0), h)
  ]

pub ranked_in_order : (xs : List Entry) → AllByRecursion IsSmall xs → AreApart xs → IsRanked (in_order xs)
ranked_in_order [] s a = tt
ranked_in_order (x ∷ xs) s a =
    ranked_put_in x (in_order xs) s.0 (all_in_order IsSmall xs s.1) (all_in_order (λ y. rank x ≢ rank y) xs a.0) (ranked_in_order xs s.1 a.1)

-- the earlier place has the lesser rank
pub ranked_at : (xs : List Entry) (i j : ℕ) (x y : Entry) → IsRanked xs → slice_get xs i ≡ Some x → slice_get xs j ≡ Some y → i < j → rank x < rank y
ranked_at [] i j x y h p q l = absurd (let w : None ≡ Some x = p in cc)
ranked_at (z ∷ zs) zero zero x y h p q l = absurd (omega arith)
ranked_at (z ∷ zs) zero (suc j) x y h p q l =
    let same : z ≡ x = (let w : Some z ≡ Some x = p in cc) in
    subst (λ (w : Entry). rank w < rank y) same (of_each (λ w. rank z < rank w) zs h.0 y (at_in zs j y q))
ranked_at (z ∷ zs) (suc i) zero x y h p q l = absurd (omega arith)
ranked_at (z ∷ zs) (suc i) (suc j) x y h p q l = ranked_at zs i j x y h.1 p q (omega arith)

all_moments : (x : Entry) (ys : List Entry) → AllByRecursion IsSmall ys → AllByRecursion (λ y. rank x < rank y) ys → AllByRecursion (λ y. x.moment ≤ y.moment) ys
all_moments x [] s h = tt
all_moments x (y ∷ ys) s h = ((let less : rank x < rank y = h.0 in omega (arith, s.0)), all_moments x ys s.1 h.1)

pub ranked_by_moment : (xs : List Entry) → AllByRecursion IsSmall xs → IsRanked xs → IsByMoment xs
ranked_by_moment [] s h = tt
ranked_by_moment (x ∷ xs) s h = (all_moments x xs s.1 h.0, ranked_by_moment xs s.1 h.1)

-- ---- what a list sounds like on a cable
later_apart : (place : ℕ → ℕ) (number : ℕ) (x y : Entry) → IsSmall x → IsSmall y → Precedes x y → rank (later (cable place x number) x) ≢ rank (later (cable place y number) y)
later_apart place number x y s t p same =
    let terminal : x.terminal ≡ y.terminal = omega (arith, s, t, same) in
    let delay : cable place x number ≡ cable place y number = ap (λ n. distance (place n) (place number)) terminal in
    elim p [
      | inl less ↦ omega (arith, same, terminal, delay, less)
      | inr both ↦ let lower : x.terminal < y.terminal = both.1 in omega (arith, terminal, lower)
    ]

all_apart : (place : ℕ → ℕ) (number : ℕ) (x : Entry) (ys : List Entry) → IsSmall x → AllByRecursion IsSmall ys → AllByRecursion (Precedes x) ys
    → AllByRecursion (λ y. rank (later (cable place x number) x) ≢ rank y) (heard (cable place) number ys)
all_apart place number x [] s t h = tt
all_apart place number x (y ∷ ys) s t h = (later_apart place number x y s t.0 h.0, all_apart place number x ys s t.1 h.1)

pub heard_apart : (place : ℕ → ℕ) (number : ℕ) (xs : List Entry) → AllByRecursion IsSmall xs → IsAscending xs → AreApart (heard (cable place) number xs)
heard_apart place number [] s h = tt
heard_apart place number (x ∷ xs) s h = (all_apart place number x xs s.0 s.1 h.0, heard_apart place number xs s.1 h.1)

pub heard_small : (delay : Delays) (number : ℕ) (xs : List Entry) → AllByRecursion IsSmall xs → AllByRecursion IsSmall (heard delay number xs)
heard_small delay number [] h = tt
heard_small delay number (x ∷ xs) h = (h.0, heard_small delay number xs h.1)

abbrev pub HasWords : Entry → Type 0
HasWords x = 0 < length x.message

pub heard_words : (delay : Delays) (number : ℕ) (xs : List Entry) → AllByRecursion HasWords xs → AllByRecursion HasWords (heard delay number xs)
heard_words delay number [] h = tt
heard_words delay number (x ∷ xs) h = (h.0, heard_words delay number xs h.1)

pub small_of : (xs : List Entry) → AllByRecursion IsTransmission xs → AllByRecursion IsSmall xs
small_of [] h = tt
small_of (x ∷ xs) h = ((let low : x.terminal ≤ 128 = h.0.low in omega arith), small_of xs h.1)

pub words_of : (xs : List Entry) → AllByRecursion IsTransmission xs → AllByRecursion HasWords xs
words_of [] h = tt
words_of (x ∷ xs) h = (h.0.message.some, words_of xs h.1)

-- ---- what is heard next
rank_is : (list : List Entry) (k : ℕ) (x : Entry) → slice_get list k ≡ Some x → rank_in list k ≡ rank x
rank_is list k x e = ap (λ o. option_map_or rank o 0) e

-- the one with the least rank of those whose rank is at least a bound is the next in order, where just those in order from there on have such a rank
pub selected : (list order : List Entry) (i from bound first : ℕ) → IsRanked order → ((z : Entry) → In z list → In z order) → ((z : Entry) → In z order → In z list)
    → ((k : ℕ) → k < from → rank_in list k < bound) → ((m : ℕ) (z : Entry) → slice_get order m ≡ Some z → bound ≤ rank z → i ≤ m)
    → ((z : Entry) → slice_get order i ≡ Some z → bound ≤ rank z) → IsFirst (rank_in list) from bound (length list) first
    → slice_get list first ≡ slice_get order i
selected list order i from bound first ranked to back passed low high f = by_both (slice_get list first) (slice_get order i) refl refl where
  by_both : (o p : Option Entry) → slice_get list first ≡ o → slice_get order i ≡ p → o ≡ p
  by_both None None e g = refl
  by_both None (Some y) e g =
      let j = in_at list y (back y (at_in order i y g)) in
      let rank_j : rank_in list j.0 ≡ rank y = rank_is list j.0 y j.1 in
      let high_y : bound ≤ rank y = high y g in
      let inside : j.0 < length list = slice_get_within list j.0 y j.1 in
      absurd (elim (cases_lt first (length list)) [
        | inl within ↦ let s = some_at list first within in (let w : None ≡ Some s.0 = sym e ∙ s.1 in cc)
        | inr past ↦
            let last : first ≡ length list = omega (arith, f.within, past) in
            elim (cases_lt j.0 from) [
              | inl before ↦ let p = passed j.0 before in omega (arith, p, rank_j, high_y)
              | inr not_before ↦ let n = f.none last j.0 not_before inside in omega (arith, n, rank_j, high_y)
            ]
      ])
  by_both (Some x) None e g =
      let within : first < length list = slice_get_within list first x e in
      let least = f.found within in
      let rank_x : rank_in list first ≡ rank x = rank_is list first x e in
      let m = in_at order x (to x (at_in list first x e)) in
      let behind : i ≤ m.0 = low m.0 x m.1 (let b : bound ≤ rank_in list first = least.1 in omega (arith, b, rank_x)) in
      let inside : m.0 < length order = slice_get_within order m.0 x m.1 in
      let s = some_at order i (omega (arith, behind, inside)) in
      absurd (let w : None ≡ Some s.0 = sym g ∙ s.1 in cc)
  by_both (Some x) (Some y) e g =
      let within : first < length list = slice_get_within list first x e in
      let least = f.found within in
      let rank_x : rank_in list first ≡ rank x = rank_is list first x e in
      let m = in_at order x (to x (at_in list first x e)) in
      let behind : i ≤ m.0 = low m.0 x m.1 (let b : bound ≤ rank_in list first = least.1 in omega (arith, b, rank_x)) in
      let j = in_at list y (back y (at_in order i y g)) in
      let rank_j : rank_in list j.0 ≡ rank y = rank_is list j.0 y j.1 in
      let high_y : bound ≤ rank y = high y g in
      let inside : j.0 < length list = slice_get_within list j.0 y j.1 in
      let not_before : from ≤ j.0 = elim (cases_lt j.0 from) [ inl before ↦ absurd (let p = passed j.0 before in omega (arith, p, rank_j, high_y)) | inr k ↦ k ] in
      let no_more : rank_in list first ≤ rank_in list j.0 = least.2 j.0 not_before inside (omega (arith, rank_j, high_y)) in
      elim (cases_lt i m.0) [
        | inl later ↦ absurd (let less = ranked_at order i m.0 y x ranked g m.1 later in omega (arith, less, no_more, rank_x, rank_j))
        | inr here ↦ let same : m.0 ≡ i = omega (arith, behind, here) in sym m.1 ∙ ap (slice_get order) same ∙ g
      ]

-- the first of all
pub selected_first : (list order : List Entry) (first : ℕ) → IsRanked order → ((z : Entry) → In z list → In z order) → ((z : Entry) → In z order → In z list)
    → IsFirst (rank_in list) 0 0 (length list) first → slice_get list first ≡ slice_get order 0
selected_first list order first ranked to back f =
    selected list order 0 0 0 first ranked to back (λ k h. absurd (omega arith)) (λ m z e h. omega arith) (λ z e. omega arith) f

-- the one behind the one at a place
pub selected_next : (list order : List Entry) (i from first : ℕ) (x : Entry) → IsRanked order → ((z : Entry) → In z list → In z order) → ((z : Entry) → In z order → In z list)
    → slice_get order i ≡ Some x → ((k : ℕ) → k < from → rank_in list k < rank x + 1) → IsFirst (rank_in list) from (rank x + 1) (length list) first
    → slice_get list first ≡ slice_get order (i + 1)
selected_next list order i from first x ranked to back at passed f =
    selected list order (i + 1) from (rank x + 1) first ranked to back passed
    (λ m z e h. elim (cases_lt i m) [
      | inl later ↦ omega arith
      | inr not_later ↦ absurd (elim (cases_eq m i) [
        | inl same ↦ let z_is : z ≡ x = (let w : Some z ≡ Some x = sym e ∙ ap (slice_get order) same ∙ at in cc) in let r : rank z ≡ rank x = ap rank z_is in omega (arith, r, h)
        | inr other ↦ let less = ranked_at order m i z x ranked e at (omega (arith, not_later, other)) in omega (arith, less, h)
      ])
    ])
    (λ z e. let less = ranked_at order i (i + 1) x z ranked at e (omega arith) in omega arith)
    f

-- ---- marks
zip_more : {X Y : Type 0} (xs : List X) (ys : List Y) (i : ℕ) (x : X) (y : Y) → slice_get xs i ≡ Some x → slice_get ys i ≡ Some y → take (suc i) (zip xs ys) ≡ take i (zip xs ys) ++ (x, y) ∷ []
zip_more [] ys i x y p q = absurd (let w : None ≡ Some x = p in cc)
zip_more (a ∷ xs) [] i x y p q = absurd (let w : None ≡ Some y = q in cc)
zip_more (a ∷ xs) (b ∷ ys) zero x y p q =
    let e : a ≡ x = (let w : Some a ≡ Some x = p in cc) in
    let f : b ≡ y = (let w : Some b ≡ Some y = q in cc) in
    ap (λ c. (c, b) ∷ []) e ∙ ap (λ c. (x, c) ∷ []) f
zip_more (a ∷ xs) (b ∷ ys) (suc i) x y p q = ap (λ t. (a, b) ∷ t) (zip_more xs ys i x y p q)

pub marked_more : (list : List Entry) (i : ℕ) (x : Entry) → slice_get list i ≡ Some x → take (i + 1) (zip list (marks list)) ≡ take i (zip list (marks list)) ++ (x, garbled list i) ∷ []
marked_more list i x at =
    let within : i < length list = slice_get_within list i x at in
    let mark : slice_get (marks list) i ≡ Some (garbled list i) = sym (first_left (marks list) i) ∙ ap (λ l. slice_get l 0) (marks_more list i within) in
    ap (λ k. take k (zip list (marks list))) (let e : i + 1 ≡ suc i = omega arith in e) ∙ zip_more list (marks list) i x (garbled list i) at mark

begins_in : (x : Entry) (list : List Entry) (i : ℕ) (o : Option Entry) → IsByMoment list → AllByRecursion HasWords list → slice_get list i ≡ Some x → slice_get list (i + 1) ≡ o
    → option_map_or (λ y. nat_lt y.moment (end_of x)) o false ≡ option_map_or (overlaps x) o false
begins_in x list i None order words at next = refl
begins_in x list i (Some y) order words at next =
    let from : x.moment ≤ y.moment = moments list i x y order at next in
    let some : 0 < bits y.message = bits_some y.message (of_each HasWords list words y (at_in list (i + 1) y next)) in
    let begun : nat_lt x.moment (end_of y) ≡ true = lt-ltb x.moment (end_of y) (omega arith) in
    sym (ap (λ b. b && nat_lt y.moment (end_of x)) begun) where
      moments : (list : List Entry) (i : ℕ) (x y : Entry) → IsByMoment list → slice_get list i ≡ Some x → slice_get list (i + 1) ≡ Some y → x.moment ≤ y.moment
      moments [] i x y order at next = absurd (let w : None ≡ Some x = at in cc)
      moments (z ∷ zs) zero x y order at next =
          let same : z ≡ x = (let w : Some z ≡ Some x = at in cc) in
          subst (λ (w : Entry). w.moment ≤ y.moment) same (of_each (λ w. z.moment ≤ w.moment) zs order.0 y (at_in zs 0 y next))
      moments (z ∷ zs) (suc i) x y order at next = moments zs i x y order.1 at (ap (slice_get (z ∷ zs)) (let e : suc (i + 1) ≡ suc i + 1 = omega arith in e) ∙ next)

-- what the writer looks at tells whether one is garbled
pub garbled_is : (list : List Entry) (i end : ℕ) (x : Entry) → IsByMoment list → AllByRecursion HasWords list → slice_get list i ≡ Some x → end ≡ greatest_end (take i list)
    → garbled list i ≡ (nat_lt x.moment end || option_map_or (λ y. nat_lt y.moment (end_of x)) (slice_get list (i + 1)) false)
garbled_is list i end x order words at e =
    garbled_next list i x (slice_get list (i + 1)) (option_map_or (λ y. nat_lt y.moment (end_of x)) (slice_get list (i + 1)) false) order at refl
    (λ z f. of_each HasWords list words z (at_in list (i + 1) z f)) (begins_in x list i (slice_get list (i + 1)) order words at refl)
    ∙ ap (λ b. b || option_map_or (λ y. nat_lt y.moment (end_of x)) (slice_get list (i + 1)) false)
    (earlier_told list i x order at (of_each HasWords list words x (at_in list i x at)) ∙ ap (λ n. nat_lt x.moment n) (sym e))

-- ---- the text
pub put_is : (delay : Delays) (list : List Entry) (number : ℕ) → flat_map (marked_put number) (zip (hearing delay list number) (marks (hearing delay list number))) ≡ flat_map hearing_line (hearings delay list number)
put_is delay list number = flat_map-passing (is_of_another number) hearing_line (zip (hearing delay list number) (marks (hearing delay list number)))

-- ---- the search for what is heard next
pub rank_heard : (delay : Delays) (number : ℕ) (list : List Entry) (k : ℕ) (x : Entry) → slice_get list k ≡ Some x → rank_in (heard delay number list) k ≡ rank (later (delay x number) x)
rank_heard delay number list k x at = ap (λ o. option_map_or rank o 0) (slice_get-map (λ y. later (delay y number) y) list k ∙ ap (option_map (λ y. later (delay y number) y)) at)

-- one place more whose rank is too low
pub passed_more : (R : ℕ → ℕ) (from at bound : ℕ) → ((k : ℕ) → from ≤ k → k < at → R k < bound) → R at < bound → (k : ℕ) → from ≤ k → k < at + 1 → R k < bound
passed_more R from at bound h here k low high = elim (cases_eq k at) [
  | inl same ↦ subst (λ n. R n < bound) (sym same) here
  | inr other ↦ h k low (omega (arith, other, high))
]

pub so_far_start : (R : ℕ → ℕ) (from bound count : ℕ) → IsFirstSoFar R from bound count from count 18446744073709551615
so_far_start R from bound count = record {
  within = omega arith;
  found = λ h. absurd (omega arith);
  behind = λ k low high h. absurd (omega arith);
  none = λ h. refl;
}

pub so_far_better : (R : ℕ → ℕ) (from bound count at best least : ℕ) → IsFirstSoFar R from bound count at best least → from ≤ at → at < count → bound ≤ R at → R at < least
    → IsFirstSoFar R from bound count (at + 1) at (R at)
so_far_better R from bound count at best least s low within here less = record {
  within = omega arith;
  found = λ h. (low, here, refl);
  behind = λ k from_k k_at h. elim (cases_eq k at) [
    | inl same ↦ (let e : R k ≡ R at = ap R same in omega (arith, e), within)
    | inr other ↦ let b = s.behind k from_k (omega (arith, other, k_at)) h in (let l : least ≤ R k = b.0 in omega (arith, l, less), within)
  ];
  none = λ h. absurd (omega (arith, h, within));
}

pub so_far_same : (R : ℕ → ℕ) (from bound count at best least : ℕ) → IsFirstSoFar R from bound count at best least → R at < 2 ^ 50 → (R at < bound) ⊎ (least ≤ R at)
    → IsFirstSoFar R from bound count (at + 1) best least
so_far_same R from bound count at best least s few worse = record {
  within = s.within;
  found = s.found;
  behind = λ k from_k k_at h. elim (cases_eq k at) [
    | inl same ↦
        let e : R k ≡ R at = ap R same in
        elim worse [
          | inl low ↦ absurd (omega (arith, low, e, h))
          | inr more ↦ (
            omega (arith, more, e),
            elim (cases_lt best count) [
              | inl k ↦ k
              | inr past ↦ absurd (let last : best ≡ count = omega (arith, s.within, past) in let most = s.none last in omega (arith, most, more, few))
            ],
          )
        ]
    | inr other ↦ s.behind k from_k (omega (arith, other, k_at)) h
  ];
  none = s.none;
}

none_left : (R : ℕ → ℕ) (bound k best count : ℕ) → best ≡ count → (bound ≤ R k → best < count) → R k < bound
none_left R bound k best count last h = elim (cases_lt (R k) bound) [ inl less ↦ less | inr not_less ↦ absurd (let w = h not_less in omega (arith, w, last)) ]

-- all places were looked at
pub so_far_all : (R : ℕ → ℕ) (from bound count at best least : ℕ) → IsFirstSoFar R from bound count at best least → count ≤ at → IsFirst R from bound count best
so_far_all R from bound count at best least s past = record {
  within = s.within;
  found = λ h. let f = s.found h in (f.0, f.1, λ k low high b. let w = s.behind k low (omega (arith, past, high)) b in let l : least ≤ R k = w.0 in let e : least ≡ R best = f.2 in omega (arith, l, e));
  none = λ last k low high. none_left R bound k best count last (λ b. (s.behind k low (omega (arith, past, high)) b).1);
}

-- or those behind have no lesser rank
pub so_far_enough : (R : ℕ → ℕ) (from bound count at best least : ℕ) → IsFirstSoFar R from bound count at best least → least < 2 ^ 63 → ((k : ℕ) → at ≤ k → k < count → least ≤ R k)
    → IsFirst R from bound count best
so_far_enough R from bound count at best least s small rest = record {
  within = s.within;
  found = λ h. let f = s.found h in (
    f.0,
    f.1,
    λ k low high b.
        let e : least ≡ R best = f.2 in
        elim (cases_lt k at) [
          | inl before ↦ let w = s.behind k low before b in let l : least ≤ R k = w.0 in omega (arith, l, e)
          | inr behind ↦ let l = rest k behind high in omega (arith, l, e)
        ],
  );
  none = λ last k low high. absurd (let most = s.none last in omega (arith, most, small));
}

moments_at : (list : List Entry) (i k : ℕ) (x y : Entry) → IsByMoment list → slice_get list i ≡ Some x → slice_get list k ≡ Some y → i ≤ k → x.moment ≤ y.moment
moments_at [] i k x y order at at_k h = absurd (let w : None ≡ Some x = at in cc)
moments_at (z ∷ zs) zero zero x y order at at_k h = let same : x ≡ y = (let w : Some x ≡ Some y = sym at ∙ at_k in cc) in let e : x.moment ≡ y.moment = ap (λ (v : Entry). v.moment) same in omega (arith, e)
moments_at (z ∷ zs) zero (suc k) x y order at at_k h =
    let same : z ≡ x = (let w : Some z ≡ Some x = at in cc) in
    subst (λ (w : Entry). w.moment ≤ y.moment) same (of_each (λ w. z.moment ≤ w.moment) zs order.0 y (at_in zs k y at_k))
moments_at (z ∷ zs) (suc i) zero x y order at at_k h = absurd (omega arith)
moments_at (z ∷ zs) (suc i) (suc k) x y order at at_k h = moments_at zs i k x y order.1 at at_k (omega arith)

-- no place behind has a rank below that of the moment here
pub rest_late : (delay : Delays) (number : ℕ) (list : List Entry) (at least : ℕ) (x : Entry) → IsByMoment list → slice_get list at ≡ Some x → least ≤ x.moment * 256
    → (k : ℕ) → at ≤ k → k < length list → least ≤ rank_in (heard delay number list) k
rest_late delay number list at least x order here h k low high =
    let y = some_at list k high in
    let m = moments_at list at k x y.0 order here y.1 low in
    let r : rank_in (heard delay number list) k ≡ rank (later (delay y.0 number) y.0) = rank_heard delay number list k y.0 y.1 in
    omega (arith, m, r, h)

-- ---- what a terminal hears in order
pub length-hearing : (delay : Delays) (list : List Entry) (number : ℕ) → length (hearing delay list number) ≡ length list
unfolding hearing
length-hearing delay list number = length-in_order (heard delay number list) ∙ length-map list (λ x. later (delay x number) x)

pub length-heard : (delay : Delays) (list : List Entry) (number : ℕ) → length (heard delay number list) ≡ length list
length-heard delay list number = length-map list (λ x. later (delay x number) x)

pub to_hearing : (delay : Delays) (list : List Entry) (number : ℕ) (z : Entry) → In z (heard delay number list) → In z (hearing delay list number)
unfolding hearing
to_hearing delay list number z h = to_order (heard delay number list) z h

pub from_hearing : (delay : Delays) (list : List Entry) (number : ℕ) (z : Entry) → In z (hearing delay list number) → In z (heard delay number list)
unfolding hearing
from_hearing delay list number z h = from_order (heard delay number list) z h

pub hearing_ranked : (place : ℕ → ℕ) (list : List Entry) (number : ℕ) → IsAscending list → AllByRecursion IsTransmission list → IsRanked (hearing (cable place) list number)
unfolding hearing
hearing_ranked place list number order h =
    ranked_in_order (heard (cable place) number list) (heard_small (cable place) number list (small_of list h)) (heard_apart place number list (small_of list h) order)

pub hearing_by_moment : (place : ℕ → ℕ) (list : List Entry) (number : ℕ) → IsAscending list → AllByRecursion IsTransmission list → IsByMoment (hearing (cable place) list number)
unfolding hearing
hearing_by_moment place list number order h =
    ranked_by_moment (in_order (heard (cable place) number list)) (all_in_order IsSmall (heard (cable place) number list) (heard_small (cable place) number list (small_of list h)))
    (hearing_ranked place list number order h)

pub hearing_words : (place : ℕ → ℕ) (list : List Entry) (number : ℕ) → AllByRecursion IsTransmission list → AllByRecursion HasWords (hearing (cable place) list number)
unfolding hearing
hearing_words place list number h = all_in_order HasWords (heard (cable place) number list) (heard_words (cable place) number list (words_of list h))

-- ---- a turn of the writer
pub place_within : (list order : List Entry) (at i : ℕ) → slice_get list at ≡ slice_get order i → i < length order → at < length list
place_within list order at i e h = let s = some_at order i h in slice_get_within list at s.0 (e ∙ s.1)

pub heard_at : (delay : Delays) (number : ℕ) (list : List Entry) (k : ℕ) (x : Entry) → slice_get list k ≡ Some x → slice_get (heard delay number list) k ≡ Some (later (delay x number) x)
heard_at delay number list k x at = slice_get-map (λ y. later (delay y number) y) list k ∙ ap (option_map (λ y. later (delay y number) y)) at

pub put_same : (number : ℕ) (y : Entry) (g : Bool) → heard_put number (heard_as y) g ≡ marked_put number (y, g)
put_same number y g = by_test (y.terminal == number) where
  by_test : (t : Bool) → cond t [] (hearing_line (y, g)) ≡ cond (not t) (hearing_line (y, g)) []
  by_test true = refl
  by_test false = refl

-- those before a place, and those passed from there on
pub before_both : (R : ℕ → ℕ) (from to bound : ℕ) → ((k : ℕ) → k < from → R k < bound) → ((k : ℕ) → from ≤ k → k < to → R k < bound) → (k : ℕ) → k < to → R k < bound
before_both R from to bound old new k h = elim (cases_lt k from) [ inl before ↦ old k before | inr behind ↦ new k behind h ]

-- the terminals of a table, as they are put
pub terminals_put : (table : Table) (delay : Delays) (list : List Entry) → codes "HEARD 1\n" ++ flat_map (sender_heard delay list) table.senders ++ flat_map (listener_heard delay list) table.listeners ++ codes "END\n" ≡ heard_text table delay list
terminals_put table delay list =
    ap (λ t. t ++ codes "END\n")
    (append_assoc (codes "HEARD 1\n") (flat_map (sender_heard delay list) table.senders) (flat_map (listener_heard delay list) table.listeners)
    ∙ ap (λ t. codes "HEARD 1\n" ++ t)
    (ap (λ t. t ++ flat_map (listener_heard delay list) table.listeners) (sym (flat_map-map (terminal_text delay list) (λ (s : Sender). s.number) table.senders))
    ∙ ap (λ t. flat_map (terminal_text delay list) (map (λ (s : Sender). s.number) table.senders) ++ t) (sym (flat_map-map (terminal_text delay list) (λ (l : Listener). l.number) table.listeners))
    ∙ sym (flat_map-append (terminal_text delay list) (map (λ (s : Sender). s.number) table.senders) (map (λ (l : Listener). l.number) table.listeners))))
