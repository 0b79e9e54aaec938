-- The finds of a pass: each is what it says, they come in the order of the rounds, and none is missing.
use Rattle.std.proofs.Common.{◌≡◌, ◌⊎◌, ℕ, zero, suc, ◌+◌, ◌<◌, ◌≤◌, ◌==◌, Bool, true, false, cond, not, ◌&&◌, List, [], ◌∷◌, ◌++◌, length, take, get_or, set, Option, Some, None, inl, inr, refl, ap, sym, ◌∙◌, arith}
use Rattle.std.specs.Prelude.{slice_get}
use Rattle.std.specs.List.{filter, find, flat_map, zip}
use Rattle.std.specs.Option.{option_and_then, option_map, option_map_or}
use Rattle.std.proofs.lemmas.Bool.{and_parts, cases_eq, cases_lt, eqb-true, eq-eqb, ne_eqb}
use Rattle.std.proofs.lemmas.List.{get_or-set_same, get_or-set_other}
use Rattle.std.proofs.lemmas.List.Filters.{length-filter_more}
use Rattle.std.proofs.lemmas.List.FromFn.{length-map-range_with_len, get_or-map-range_with_len}
use Rattle.std.proofs.lemmas.Option.{slice_get_within, slice_get-get_or, get_or_from_slice_get}
use Rattle.bus_strings.specs.Messages.{Wordstring, Message, Entry}
use Rattle.bus_strings.specs.Transmissions.{garbled, marks}
use Rattle.bus_vote.specs.Rounds.{is_of, sent_by, is_named, words_in, words_of}
use Rattle.bus_vote.specs.inside.Finds.{Find, IsFound, AreFinds, sent_before, is_wanted, string_finds, entry_finds, place_finds, finds_before, is_own}
use Rattle.bus_strings.proofs.ListLaws.{flat_map-range}

nowhere : {X : Type 0} {P : Type 0} (k : ℕ) (x : X) → slice_get [] k ≡ Some x → P
nowhere {X = X} k x e = absurd (let w : k < length {A = X} [] = slice_get_within [] k x e in omega arith)

-- ---- the one that so many before it pass with
nth_passing : {X : Type 0} (p : X → Bool) (xs : List X) (k : ℕ) (x : X) → slice_get xs k ≡ Some x → p x ≡ true
    → slice_get (filter p xs) (length (filter p (take k xs))) ≡ Some x
nth_passing p [] k x e t = nowhere k x e
nth_passing p (y ∷ ys) zero x e t =
    let same : y ≡ x = let w : Some y ≡ Some x = e in cc in
    ap (λ (b : Bool). slice_get (cond b (y ∷ filter p ys) (filter p ys)) 0) (ap p same ∙ t) ∙ ap Some same
nth_passing {X = X} p (y ∷ ys) (suc k) x e t = by_test (p y) (nth_passing p ys k x e t) where
  by_test : (b : Bool) → slice_get (filter p ys) (length (filter p (take k ys))) ≡ Some x
      → slice_get (cond b (y ∷ filter p ys) (filter p ys)) (length (cond b (y ∷ filter p (take k ys)) (filter p (take k ys)))) ≡ Some x
  by_test true h = h
  by_test false h = h

record IsPassed {X : Type 0} (p : X → Bool) (xs : List X) (k : ℕ) (x : X) : Type 0 where
  pub place : ℕ
  pub there : slice_get xs place ≡ Some x
  pub passes : p x ≡ true
  pub before : length (filter p (take place xs)) ≡ k

which_passed : {X : Type 0} (p : X → Bool) (xs : List X) (k : ℕ) (x : X) → slice_get (filter p xs) k ≡ Some x → IsPassed p xs k x
which_passed p [] k x e = nowhere k x e
which_passed {X = X} p (y ∷ ys) k x e = by_test (p y) refl k e (λ j h. which_passed p ys j x h) where
  by_test : (b : Bool) → p y ≡ b → (j : ℕ) → slice_get (cond b (y ∷ filter p ys) (filter p ys)) j ≡ Some x
      → ((i : ℕ) → slice_get (filter p ys) i ≡ Some x → IsPassed p ys i x) → IsPassed p (y ∷ ys) j x
  by_test true t zero h next =
      let same : y ≡ x = let w : Some y ≡ Some x = h in cc in
      record { place = 0; there = h; passes = ap p (sym same) ∙ t; before = refl }
  by_test true t (suc j) h next =
      let rest : IsPassed p ys j x = next j h in
      record {
        place = suc rest.place;
        there = rest.there;
        passes = rest.passes;
        before = ap (λ (b : Bool). length (cond b (y ∷ filter p (take rest.place ys)) (filter p (take rest.place ys)))) t ∙ ap suc rest.before;
      }
  by_test false f j h next =
      let rest : IsPassed p ys j x = next j h in
      record {
        place = suc rest.place;
        there = rest.there;
        passes = rest.passes;
        before = ap (λ (b : Bool). length (cond b (y ∷ filter p (take rest.place ys)) (filter p (take rest.place ys)))) f ∙ rest.before;
      }

more_pass : {X : Type 0} (p : X → Bool) (xs : List X) (i j : ℕ) → i ≤ j → length (filter p (take i xs)) ≤ length (filter p (take j xs))
more_pass p [] zero zero h = omega arith
more_pass p [] zero (suc j) h = omega arith
more_pass p [] (suc i) zero h = omega arith
more_pass p [] (suc i) (suc j) h = omega arith
more_pass p (x ∷ xs) zero j h = omega arith
more_pass p (x ∷ xs) (suc i) zero h = absurd (omega arith)
more_pass {X = X} p (x ∷ xs) (suc i) (suc j) h = by_test (p x) (more_pass p xs i j (omega arith)) where
  by_test : (b : Bool) → length (filter p (take i xs)) ≤ length (filter p (take j xs))
      → length (cond b (x ∷ filter p (take i xs)) (filter p (take i xs))) ≤ length (cond b (x ∷ filter p (take j xs)) (filter p (take j xs)))
  by_test true k = omega arith
  by_test false k = k

few_pass : {X : Type 0} (p : X → Bool) (xs : List X) (k : ℕ) → length (filter p (take k xs)) ≤ k
few_pass p [] zero = omega arith
few_pass p [] (suc k) = omega arith
few_pass p (x ∷ xs) zero = omega arith
few_pass {X = X} p (x ∷ xs) (suc k) = by_test (p x) (few_pass p xs k) where
  by_test : (b : Bool) → length (filter p (take k xs)) ≤ k → length (cond b (x ∷ filter p (take k xs)) (filter p (take k xs))) ≤ suc k
  by_test true h = omega arith
  by_test false h = omega arith

-- ---- the transmissions of a terminal, and their marks
zip_at : {X Y : Type 0} (xs : List X) (ys : List Y) (k : ℕ) (x : X) (y : Y) → slice_get xs k ≡ Some x → slice_get ys k ≡ Some y → slice_get (zip xs ys) k ≡ Some (x, y)
zip_at [] ys k x y e f = nowhere k x e
zip_at (a ∷ xs) [] k x y e f = nowhere k y f
zip_at (a ∷ xs) (b ∷ ys) zero x y e f =
    let same : a ≡ x = let w : Some a ≡ Some x = e in cc in
    let also : b ≡ y = let w : Some b ≡ Some y = f in cc in
    ap (λ z. Some (z, b)) same ∙ ap (λ z. Some (x, z)) also
zip_at (a ∷ xs) (b ∷ ys) (suc k) x y e f = zip_at xs ys k x y e f

zip_first : {X Y : Type 0} (xs : List X) (ys : List Y) (k : ℕ) (m : X × Y) → slice_get (zip xs ys) k ≡ Some m → slice_get xs k ≡ Some m.0
zip_first [] ys k m e = nowhere k m e
zip_first (a ∷ xs) [] k m e = nowhere k m e
zip_first (a ∷ xs) (b ∷ ys) zero m e = let same : (a, b) ≡ m = let w : Some (a, b) ≡ Some m = e in cc in ap (λ z. Some z.0) same
zip_first (a ∷ xs) (b ∷ ys) (suc k) m e = zip_first xs ys k m e

zip_second : {X Y : Type 0} (xs : List X) (ys : List Y) (k : ℕ) (m : X × Y) → slice_get (zip xs ys) k ≡ Some m → slice_get ys k ≡ Some m.1
zip_second [] ys k m e = nowhere k m e
zip_second (a ∷ xs) [] k m e = nowhere k m e
zip_second (a ∷ xs) (b ∷ ys) zero m e = let same : (a, b) ≡ m = let w : Some (a, b) ≡ Some m = e in cc in ap (λ z. Some z.1) same
zip_second (a ∷ xs) (b ∷ ys) (suc k) m e = zip_second xs ys k m e

mark_at : (list : List Entry) (k : ℕ) → k < length list → slice_get (marks list) k ≡ Some (garbled list k)
mark_at list k within =
    let long : length (marks list) ≡ length list = length-map-range_with_len (garbled list) 0 (length list) in
    slice_get-get_or (marks list) k false (omega arith)
    ∙ ap Some (get_or-map-range_with_len (garbled list) 0 (length list) k k false within (omega arith))

marked_at : (list : List Entry) (k : ℕ) (x : Entry) → slice_get list k ≡ Some x → slice_get (zip list (marks list)) k ≡ Some (x, garbled list k)
marked_at list k x there = zip_at list (marks list) k x (garbled list k) there (mark_at list k (slice_get_within list k x there))

round_found : (list : List Entry) (place : ℕ) (x : Entry) → slice_get list place ≡ Some x
    → slice_get (sent_by x.terminal list) (sent_before x.terminal list place) ≡ Some (x, garbled list place)
round_found list place x there =
    nth_passing (is_of x.terminal) (zip list (marks list)) place (x, garbled list place) (marked_at list place x there) (eq-eqb x.terminal x.terminal refl)

record IsPlaced (list : List Entry) (terminal round : ℕ) (m : Entry × Bool) : Type 0 where
  pub place : ℕ
  pub there : slice_get list place ≡ Some m.0
  pub mark : m.1 ≡ garbled list place
  pub own : m.0.terminal ≡ terminal
  pub before : sent_before terminal list place ≡ round

round_which : (list : List Entry) (terminal round : ℕ) (m : Entry × Bool) → slice_get (sent_by terminal list) round ≡ Some m → IsPlaced list terminal round m
round_which list terminal round m e =
    let found : IsPassed (is_of terminal) (zip list (marks list)) round m = which_passed (is_of terminal) (zip list (marks list)) round m e in
    let there : slice_get list found.place ≡ Some m.0 = zip_first list (marks list) found.place m found.there in
    let mark : Some m.1 ≡ Some (garbled list found.place) =
    sym (zip_second list (marks list) found.place m found.there) ∙ mark_at list found.place (slice_get_within list found.place m.0 there) in
    record {
      place = found.place;
      there = there;
      mark = let w : Some m.1 ≡ Some (garbled list found.place) = mark in cc;
      own = eqb-true m.0.terminal terminal found.passes;
      before = found.before;
    }

-- one transmission further
pub sent_more : (list : List Entry) (at : ℕ) (x : Entry) (terminal : ℕ) → slice_get list at ≡ Some x
    → sent_before terminal list (at + 1) ≡ sent_before terminal list at + cond (x.terminal == terminal) 1 0
sent_more list at x terminal there =
    let m : Entry × Bool = (x, garbled list at) in
    let marked : slice_get (zip list (marks list)) at ≡ Some m = marked_at list at x there in
    length-filter_more (is_of terminal) (zip list (marks list)) at m (slice_get_within (zip list (marks list)) at m marked)
    ∙ ap (λ (y : Entry × Bool). sent_before terminal list at + cond (is_of terminal y) 1 0) (get_or_from_slice_get (zip list (marks list)) at m m marked)

pub sent_bound : (list : List Entry) (at terminal : ℕ) → sent_before terminal list at ≤ at
sent_bound list at terminal = few_pass (is_of terminal) (zip list (marks list)) at

-- by terminal, how many transmissions stand before a place
abbrev pub IsCount : List Entry → ℕ → List ℕ → Type 0
IsCount list at counts = (terminal : ℕ) → terminal < 129 → get_or counts terminal 0 ≡ sent_before terminal list at

pub none_counted : (list : List Entry) (counts : List ℕ) → ((terminal : ℕ) → terminal < 129 → get_or counts terminal 0 ≡ 0) → IsCount list 0 counts
none_counted list counts zeros = λ terminal within.
    let none : sent_before terminal list 0 ≤ 0 = sent_bound list 0 terminal in
    let e : get_or counts terminal 0 ≡ 0 = zeros terminal within in
    omega arith

pub count_more : (list : List Entry) (at : ℕ) (x : Entry) (own round : ℕ) (counts : List ℕ) → slice_get list at ≡ Some x → own ≡ x.terminal → own < length counts
    → round ≡ get_or counts own 0 → IsCount list at counts → IsCount list (at + 1) (set counts own (round + 1))
count_more list at x own round counts there names within is counted = λ terminal low. elim (cases_eq terminal own) [
  | inl same ↦
      let a : get_or (set counts own (round + 1)) own 0 ≡ round + 1 = get_or-set_same counts own (round + 1) 0 within in
      let b : get_or (set counts own (round + 1)) terminal 0 ≡ get_or (set counts own (round + 1)) own 0 = ap (λ t. get_or (set counts own (round + 1)) t 0) same in
      let c : get_or counts terminal 0 ≡ get_or counts own 0 = ap (λ t. get_or counts t 0) same in
      let d : get_or counts terminal 0 ≡ sent_before terminal list at = counted terminal low in
      let e : sent_before terminal list (at + 1) ≡ sent_before terminal list at + 1 =
      sent_more list at x terminal there ∙ ap (λ (t : Bool). sent_before terminal list at + cond t 1 0) (eq-eqb x.terminal terminal (sym names ∙ sym same)) in
      omega arith
  | inr other ↦
      get_or-set_other counts own terminal (round + 1) 0 other ∙ counted terminal low
      ∙ sym (sent_more list at x terminal there ∙ ap (λ (t : Bool). sent_before terminal list at + cond t 1 0) (ne_eqb x.terminal terminal (λ e. other (sym e ∙ sym names)))
      ∙ (let z : sent_before terminal list at + 0 ≡ sent_before terminal list at = omega arith in z))
]

-- ---- places of lists that are put together
record IsSecond {X : Type 0} (xs ys : List X) (j : ℕ) (z : X) : Type 0 where
  pub i : ℕ
  pub there : slice_get ys i ≡ Some z
  pub past : length xs + i ≡ j

split_get : {X : Type 0} (xs ys : List X) (j : ℕ) (z : X) → slice_get (xs ++ ys) j ≡ Some z → (slice_get xs j ≡ Some z) ⊎ IsSecond xs ys j z
split_get [] ys j z e = inr (record { i = j; there = e; past = let none : 0 + j ≡ j = omega arith in none })
split_get (x ∷ xs) ys zero z e = inl e
split_get (x ∷ xs) ys (suc j) z e = elim (split_get xs ys j z e) [
  | inl first ↦ inl first
  | inr second ↦ inr (record { i = second.i; there = second.there; past = let p : length xs + second.i ≡ j = second.past in omega arith })
]

get_first : {X : Type 0} (xs ys : List X) (j : ℕ) (z : X) → slice_get xs j ≡ Some z → slice_get (xs ++ ys) j ≡ Some z
get_first [] ys j z e = nowhere j z e
get_first (x ∷ xs) ys zero z e = e
get_first (x ∷ xs) ys (suc j) z e = get_first xs ys j z e

get_second : {X : Type 0} (xs ys : List X) (i : ℕ) (z : X) → slice_get ys i ≡ Some z → slice_get (xs ++ ys) (length xs + i) ≡ Some z
get_second [] ys i z e = let none : 0 + i ≡ i = omega arith in ap (slice_get ys) none ∙ e
get_second (x ∷ xs) ys i z e =
    let one : suc (length xs) + i ≡ suc (length xs + i) = omega arith in
    ap (slice_get (x ∷ xs ++ ys)) one ∙ get_second xs ys i z e

record IsSomewhere {X : Type 0} (xs : List X) (z : X) : Type 0 where
  pub at : ℕ
  pub there : slice_get xs at ≡ Some z

all_of : {X A : Type 0} (f : X → List A) (P : A → Type 0) (xs : List X) → ((x : X) (i : ℕ) (a : A) → slice_get (f x) i ≡ Some a → P a)
    → (j : ℕ) (a : A) → slice_get (flat_map f xs) j ≡ Some a → P a
all_of f P [] h j a e = nowhere j a e
all_of f P (x ∷ xs) h j a e = elim (split_get (f x) (flat_map f xs) j a e) [
  | inl first ↦ h x j a first
  | inr second ↦ all_of f P xs h second.i a second.there
]

some_of : {X A : Type 0} (f : X → List A) (xs : List X) (k : ℕ) (x : X) (a : A) → slice_get xs k ≡ Some x → slice_get (f x) 0 ≡ Some a → IsSomewhere (flat_map f xs) a
some_of f [] k x a e h = nowhere k x e
some_of f (y ∷ ys) zero x a e h =
    let same : y ≡ x = let w : Some y ≡ Some x = e in cc in
    record { at = 0; there = get_first (f y) (flat_map f ys) 0 a (ap (λ z. slice_get (f z) 0) same ∙ h) }
some_of f (y ∷ ys) (suc k) x a e h =
    let rest : IsSomewhere (flat_map f ys) a = some_of f ys k x a e h in
    record { at = length (f y) + rest.at; there = get_second (f y) (flat_map f ys) rest.at a rest.there }

-- ---- what is put at a place
record IsPut (list : List Entry) (place terminal round : ℕ) (f : Find) : Type 0 where
  pub at : f.place ≡ place
  pub named : f.round ≡ round
  pub sender : f.terminal ≡ terminal
  pub clear : garbled list place ≡ false

string_put : (wanted : List Bool) (list : List Entry) (place terminal round : ℕ) (string : Wordstring) (i : ℕ) (f : Find)
    → slice_get (string_finds wanted list place terminal round string) i ≡ Some f → IsPut list place terminal round f
string_put wanted list place terminal round string i f e = by_test (is_wanted wanted string.label) (garbled list place) refl i e where
  own : Find
  own = record { place = place; round = round; label = string.label; terminal = terminal }

  by_test : (w g : Bool) → garbled list place ≡ g → (j : ℕ) → slice_get (cond (w && not g) (own ∷ []) []) j ≡ Some f → IsPut list place terminal round f
  by_test true false c zero h =
      let same : own ≡ f = let w : Some own ≡ Some f = h in cc in
      record { at = ap (λ (z : Find). z.place) (sym same); named = ap (λ (z : Find). z.round) (sym same); sender = ap (λ (z : Find). z.terminal) (sym same); clear = c }
  by_test true false c (suc j) h = nowhere j f h
  by_test true true c j h = nowhere j f h
  by_test false g c j h = nowhere j f h

record IsPutAt (list : List Entry) (place : ℕ) (f : Find) : Type 0 where
  pub x : Entry
  pub there : slice_get list place ≡ Some x
  pub put : IsPut list place x.terminal (sent_before x.terminal list place) f

place_put : (wanted : List Bool) (list : List Entry) (place j : ℕ) (f : Find) → slice_get (place_finds wanted list place) j ≡ Some f → IsPutAt list place f
place_put wanted list place j f e = by_option (slice_get list place) refl e where
  by_option : (o : Option Entry) → slice_get list place ≡ o → slice_get (option_map_or (entry_finds wanted list place) o []) j ≡ Some f → IsPutAt list place f
  by_option None there h = nowhere j f h
  by_option (Some x) there h = record {
    x = x;
    there = there;
    put = all_of (string_finds wanted list place x.terminal (sent_before x.terminal list place))
        (IsPut list place x.terminal (sent_before x.terminal list place)) x.message
        (λ s i a k. string_put wanted list place x.terminal (sent_before x.terminal list place) s i a k) j f h;
  }

pub finds_more : (wanted : List Bool) (list : List Entry) (n : ℕ) → finds_before wanted list (n + 1) ≡ finds_before wanted list n ++ place_finds wanted list n
finds_more wanted list n = flat_map-range (place_finds wanted list) n

finds_next : (wanted : List Bool) (list : List Entry) (n : ℕ) → finds_before wanted list (suc n) ≡ finds_before wanted list n ++ place_finds wanted list n
finds_next wanted list n = let one : suc n ≡ n + 1 = omega arith in ap (finds_before wanted list) one ∙ finds_more wanted list n

split_finds : (wanted : List Bool) (list : List Entry) (n j : ℕ) (f : Find) → slice_get (finds_before wanted list (suc n)) j ≡ Some f
    → (slice_get (finds_before wanted list n) j ≡ Some f) ⊎ IsSecond (finds_before wanted list n) (place_finds wanted list n) j f
split_finds wanted list n j f e =
    split_get (finds_before wanted list n) (place_finds wanted list n) j f (sym (ap (λ fs. slice_get fs j) (finds_next wanted list n)) ∙ e)

-- ---- all of them
record IsGood (list : List Entry) (n : ℕ) (f : Find) : Type 0 where
  pub x : Entry
  pub there : slice_get list f.place ≡ Some x
  pub clear : garbled list f.place ≡ false
  pub named : f.round ≡ sent_before x.terminal list f.place
  pub sender : f.terminal ≡ x.terminal
  pub before : f.place < n

good_at : (list : List Entry) (n : ℕ) (f : Find) → IsPutAt list n f → IsGood list (suc n) f
good_at list n f p = record {
  x = p.x;
  there = ap (slice_get list) p.put.at ∙ p.there;
  clear = ap (garbled list) p.put.at ∙ p.put.clear;
  named = p.put.named ∙ ap (sent_before p.x.terminal list) (sym p.put.at);
  sender = p.put.sender;
  before = let e : f.place ≡ n = p.put.at in omega arith;
}

good_later : (list : List Entry) (n : ℕ) (f : Find) → IsGood list n f → IsGood list (suc n) f
good_later list n f g = record { x = g.x; there = g.there; clear = g.clear; named = g.named; sender = g.sender; before = let b : f.place < n = g.before in omega arith }

all_good : (wanted : List Bool) (list : List Entry) (n j : ℕ) (f : Find) → slice_get (finds_before wanted list n) j ≡ Some f → IsGood list n f
all_good wanted list zero j f e = nowhere j f e
all_good wanted list (suc n) j f e = elim (split_finds wanted list n j f e) [
  | inl first ↦ good_later list n f (all_good wanted list n j f first)
  | inr second ↦ good_at list n f (place_put wanted list n second.i f second.there)
]

in_order : (wanted : List Bool) (list : List Entry) (n i j : ℕ) (f g : Find) → i ≤ j → slice_get (finds_before wanted list n) i ≡ Some f
    → slice_get (finds_before wanted list n) j ≡ Some g → f.place ≤ g.place
in_order wanted list zero i j f g le a b = nowhere i f a
in_order wanted list (suc n) i j f g le a b = elim (split_finds wanted list n j g b) [
  | inl first ↦ elim (split_finds wanted list n i f a) [
    | inl earlier ↦ in_order wanted list n i j f g le earlier first
    | inr later ↦
        let p : length (finds_before wanted list n) + later.i ≡ i = later.past in
        let q : j < length (finds_before wanted list n) = slice_get_within (finds_before wanted list n) j g first in
        absurd (omega arith)
  ]
  | inr second ↦
      let there : g.place ≡ n = (place_put wanted list n second.i g second.there).put.at in
      let before : f.place < suc n = (all_good wanted list (suc n) i f a).before in
      omega arith
]

none_missing : (wanted : List Bool) (list : List Entry) (n place k : ℕ) (x : Entry) (string : Wordstring) → place < n → slice_get list place ≡ Some x
    → garbled list place ≡ false → slice_get x.message k ≡ Some string → is_wanted wanted string.label ≡ true
    → IsSomewhere (finds_before wanted list n) (record { place = place; round = sent_before x.terminal list place; label = string.label; terminal = x.terminal })
none_missing wanted list zero place k x string before there clear has is = absurd (omega arith)
none_missing wanted list (suc n) place k x string before there clear has is = elim (cases_lt place n) [
  | inl earlier ↦
      let rest = none_missing wanted list n place k x string earlier there clear has is in
      let f : Find = record { place = place; round = sent_before x.terminal list place; label = string.label; terminal = x.terminal } in
      record {
        at = rest.at;
        there = ap (λ fs. slice_get fs rest.at) (finds_next wanted list n)
            ∙ get_first (finds_before wanted list n) (place_finds wanted list n) rest.at f rest.there;
      }
  | inr late ↦
      let e : n ≡ place = omega arith in
      let f : Find = record { place = place; round = sent_before x.terminal list place; label = string.label; terminal = x.terminal } in
      let put : slice_get (string_finds wanted list place x.terminal (sent_before x.terminal list place) string) 0 ≡ Some f =
      ap (λ (b : Bool). slice_get (cond (b && not (garbled list place)) (f ∷ []) []) 0) is
      ∙ ap (λ (b : Bool). slice_get (cond (not b) (f ∷ []) []) 0) clear in
      let here : IsSomewhere (entry_finds wanted list place x) f =
      some_of (string_finds wanted list place x.terminal (sent_before x.terminal list place)) x.message k string f has put in
      let at_place : slice_get (place_finds wanted list n) here.at ≡ Some f =
      ap (λ m. slice_get (place_finds wanted list m) here.at) e
      ∙ ap (λ o. slice_get (option_map_or (entry_finds wanted list place) o []) here.at) there ∙ here.there in
      record {
        at = length (finds_before wanted list n) + here.at;
        there = ap (λ fs. slice_get fs (length (finds_before wanted list n) + here.at)) (finds_next wanted list n)
            ∙ get_second (finds_before wanted list n) (place_finds wanted list n) here.at f at_place;
      }
]

-- ---- a message that has words for a label
record IsLabelled (label : ℕ) (message : Message) : Type 0 where
  pub k : ℕ
  pub string : Wordstring
  pub there : slice_get message k ≡ Some string
  pub is : string.label ≡ label

labelled : (label ext : ℕ) (message : Message) (words : List ℕ) → words_in label ext message ≡ Some words → IsLabelled label message
labelled label ext [] words e = absurd (let w : None ≡ Some words = e in cc)
labelled label ext (s ∷ message) words e = by_test (is_named label ext s) refl e (λ h. labelled label ext message words h) where
  by_test : (b : Bool) → is_named label ext s ≡ b
      → option_map (λ (t : Wordstring). t.words) (cond b (Some s) (find (is_named label ext) message)) ≡ Some words
      → (words_in label ext message ≡ Some words → IsLabelled label message) → IsLabelled label (s ∷ message)
  by_test true t h next = record { k = 0; string = s; there = refl; is = eqb-true s.label label (and_parts (s.label == label) (s.ext == ext) t).0 }
  by_test false t h next = let rest : IsLabelled label message = next h in record { k = suc rest.k; string = rest.string; there = rest.there; is = rest.is }

-- ---- they are the finds of each label that was looked for
pub own_terminal : (label terminal : ℕ) (f : Find) → is_own label terminal f ≡ true → f.terminal ≡ terminal
own_terminal label terminal f own = eqb-true f.terminal terminal (and_parts (f.label == label) (f.terminal == terminal) own).1

own_round : (list : List Entry) (label terminal n : ℕ) (f : Find) → is_own label terminal f ≡ true → IsGood list n f
    → f.round ≡ sent_before terminal list f.place
own_round list label terminal n f own good =
    good.named ∙ ap (λ t. sent_before t list f.place) (sym good.sender ∙ own_terminal label terminal f own)

has_words : (label ext : ℕ) (m : Entry × Bool) (words : List ℕ) → words_of label ext m ≡ Some words → (m.1 ≡ false) × (words_in label ext m.0.message ≡ Some words)
has_words label ext m words e = by_mark m.1 refl e where
  by_mark : (b : Bool) → m.1 ≡ b → cond b None (words_in label ext m.0.message) ≡ Some words → (m.1 ≡ false) × (words_in label ext m.0.message ≡ Some words)
  by_mark true is h = absurd (let w : None ≡ Some words = h in cc)
  by_mark false is h = (is, h)

found_by : (wanted : List Bool) (list : List Entry) (label : ℕ) → is_wanted wanted label ≡ true → (terminal ext round : ℕ) (words : List ℕ) (m : Entry × Bool)
    → slice_get (sent_by terminal list) round ≡ Some m → words_of label ext m ≡ Some words → IsFound list (finds_before wanted list (length list)) label terminal round
found_by wanted list label is terminal ext round words m e h =
    let p : IsPlaced list terminal round m = round_which list terminal round m e in
    let has = has_words label ext m words h in
    let s : IsLabelled label m.0.message = labelled label ext m.0.message words has.1 in
    let f : Find = record { place = p.place; round = sent_before m.0.terminal list p.place; label = s.string.label; terminal = m.0.terminal } in
    let there = none_missing wanted list (length list) p.place s.k m.0 s.string (slice_get_within list p.place m.0 p.there) p.there (sym p.mark ∙ has.0) s.there
    (ap (is_wanted wanted) s.is ∙ is) in
    record {
      at = there.at;
      find = f;
      there = there.there;
      own = ap (λ (b : Bool). b && (m.0.terminal == terminal)) (eq-eqb s.string.label label s.is) ∙ eq-eqb m.0.terminal terminal p.own;
      named = ap (λ t. sent_before t list p.place) p.own ∙ p.before;
    }

pub finds_are : (wanted : List Bool) (list : List Entry) (label : ℕ) → is_wanted wanted label ≡ true → AreFinds list (finds_before wanted list (length list)) label
finds_are wanted list label is = record {
  placed = λ at f there. (all_good wanted list (length list) at f there).before;
  sender = λ at f x there sent.
      let good : IsGood list (length list) f = all_good wanted list (length list) at f there in
      let same : good.x ≡ x = let w : Some good.x ≡ Some x = sym good.there ∙ sent in cc in
      ap (λ (y : Entry). y.terminal) (sym same) ∙ sym good.sender;
  sound = λ at f x there sent.
      let good : IsGood list (length list) f = all_good wanted list (length list) at f there in
      let same : good.x ≡ x = let w : Some good.x ≡ Some x = sym good.there ∙ sent in cc in
      ap (slice_get (sent_by x.terminal list)) (good.named ∙ ap (λ (y : Entry). sent_before y.terminal list f.place) same)
      ∙ round_found list f.place x sent ∙ ap (λ b. Some (x, b)) good.clear;
  order = λ i j terminal f g le first second own_f own_g.
      let a : f.round ≡ sent_before terminal list f.place = own_round list label terminal (length list) f own_f (all_good wanted list (length list) i f first) in
      let b : g.round ≡ sent_before terminal list g.place = own_round list label terminal (length list) g own_g (all_good wanted list (length list) j g second) in
      let c : sent_before terminal list f.place ≤ sent_before terminal list g.place =
      more_pass (is_of terminal) (zip list (marks list)) f.place g.place (in_order wanted list (length list) i j f g le first second) in
      omega arith;
  whole = λ terminal ext round words e. by_option terminal ext round words (slice_get (sent_by terminal list) round) refl e;
} where
  by_option : (terminal ext round : ℕ) (words : List ℕ) (o : Option (Entry × Bool)) → slice_get (sent_by terminal list) round ≡ o
      → option_and_then (words_of label ext) o ≡ Some words → IsFound list (finds_before wanted list (length list)) label terminal round
  by_option terminal ext round words None e h = absurd (let w : None ≡ Some words = h in cc)
  by_option terminal ext round words (Some m) e h = found_by wanted list label is terminal ext round words m e h

-- one transmission's finds more
pub found_more : (wanted : List Bool) (list : List Entry) (at : ℕ) (x : Entry) (round : ℕ) (strings : Message) (old new : List Find) → slice_get list at ≡ Some x
    → round ≡ sent_before x.terminal list at → strings ≡ x.message → old ≡ finds_before wanted list at
    → new ≡ old ++ flat_map (string_finds wanted list at x.terminal round) strings → new ≡ finds_before wanted list (at + 1)
found_more wanted list at x round strings old new there r s o n =
    n ∙ ap (λ fs. fs ++ flat_map (string_finds wanted list at x.terminal round) strings) o
    ∙ ap (λ k. finds_before wanted list at ++ flat_map (string_finds wanted list at x.terminal k) strings) r
    ∙ ap (λ m. finds_before wanted list at ++ flat_map (string_finds wanted list at x.terminal (sent_before x.terminal list at)) m) s
    ∙ ap (λ e. finds_before wanted list at ++ option_map_or (entry_finds wanted list at) e []) (sym there)
    ∙ sym (finds_more wanted list at)
