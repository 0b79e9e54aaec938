-- No more transmissions are live at once than there are terminals, where none is doubled.
use Rattle.std.proofs.Common.{◌≡◌, ℕ, zero, suc, ◌+◌, ◌<◌, ◌≤◌, Bool, true, false, cond, eqb, List, [], ◌∷◌, length, take, Option, Some, None}
use Rattle.std.proofs.Common.{inl, inr, arith, sym, refl, ap, subst, ◌∙◌}
use Rattle.std.specs.Prelude.{slice_get}
use Rattle.std.specs.List.{AllByRecursion, IsDistinct, cons_option, find, filter_map, list_any, range_with_len}
use Rattle.std.specs.Option.{option_and_then}
use Rattle.std.proofs.lemmas.Bool.{true≢false, cases_lt, lt-ltb, eq-eqb, eqb-true, ne_eqb, or_cases}
use Rattle.std.proofs.lemmas.Map.Steps.{length-le_from_distinct_below}
use Rattle.std.proofs.lemmas.Option.{slice_get_within}
use Rattle.bus_strings.specs.Members.{In}
use Rattle.bus_strings.proofs.MemberLaws.{of_each, at_in, any_in}
use Rattle.bus_strings.specs.Messages.{Entry}
use Rattle.bus_strings.specs.Transmissions.{end_of, IsTransmission}
use Rattle.bus_strings.proofs.ListLaws.{all_cons}
use Rattle.bus_dump.specs.Doubled.{doubled, is_doubled, runs_into}
use Rattle.bus_dump.specs.Seen.{holds}
use Rattle.bus_dump.specs.inside.Walks.{live_entry, live_of, live_to, IsWalkable}
use Rattle.bus_dump.proofs.LiveLemmas.{absent, present, at_place, held_from, held_to, live_none, live_some}

-- ---- no entry is doubled
found_none : (p : ℕ → Bool) (a n : ℕ) → find p (range_with_len a n) ≡ None → (k : ℕ) → a ≤ k → k < a + n → p k ≡ false
found_none p a zero h k l u = absurd (omega arith)
found_none p a (suc n) h k l u = by_test (p a) refl h (λ w m. found_none p (a + 1) n w k m (omega arith)) where
  by_test : (b : Bool) → p a ≡ b → cond b (Some a) (find p (range_with_len (a + 1) n)) ≡ None
      → (find p (range_with_len (a + 1) n) ≡ None → a + 1 ≤ k → p k ≡ false) → p k ≡ false
  by_test true e w more = absurd cc
  by_test false e w more = elim (cases_lt a k) [
    | inl later ↦ more w (omega arith)
    | inr same ↦ (let is : k ≡ a = omega arith in ap p is ∙ e)
  ]

-- an earlier place in a front
in_front : (list : List Entry) (i k : ℕ) (x : Entry) → slice_get list i ≡ Some x → i < k → In x (take k list)
in_front [] i k x e h = absurd (let w : None ≡ Some x = e in cc)
in_front (y ∷ list) i zero x e h = absurd (omega arith)
in_front (y ∷ list) zero (suc k) x e h = inl (let w : Some y ≡ Some x = e in cc)
in_front (y ∷ list) (suc i) (suc k) x e h = inr (in_front list i k x e (omega arith))

-- so an earlier entry of the same terminal has ended
pub ended_before : (list : List Entry) → doubled list ≡ None → (i k : ℕ) (x y : Entry) → i < k → slice_get list i ≡ Some x → slice_get list k ≡ Some y
    → x.terminal ≡ y.terminal → end_of x ≤ y.moment
ended_before list single i k x y h p q same =
    elim (cases_lt y.moment (end_of x)) [
      | inr done ↦ done
      | inl into ↦
          let not : is_doubled list k ≡ false = found_none (is_doubled list) 0 (length list) single k (omega arith) (let w : k < length list = slice_get_within list k y q in omega arith) in
          let test : runs_into y x ≡ true = rw (eq-eqb x.terminal y.terminal same, lt-ltb y.moment (end_of x) into) refl in
          let found : list_any (runs_into y) (take k list) ≡ true = any_in (runs_into y) (take k list) x (in_front list i k x p h) test in
          let is : is_doubled list k ≡ list_any (runs_into y) (take k list) = doubled_at list k y q in
          absurd (true≢false (sym found ∙ sym is ∙ not))
    ]
  where
    doubled_at : (list : List Entry) (k : ℕ) (y : Entry) → slice_get list k ≡ Some y → is_doubled list k ≡ list_any (runs_into y) (take k list)
    doubled_at list k y e = rw e refl

-- ---- the terminals of live transmissions
id_entry : List Entry → ℕ → ℕ → Option ℕ
id_entry list t k = option_and_then (λ x. cond (holds t x) (Some x.terminal) None) (slice_get list k)

ids : List Entry → ℕ → ℕ → ℕ → List ℕ
unfolding id_entry
ids list t a n = filter_map (id_entry list t) (range_with_len a n)

-- what is known of one of them
record IdFacts (list : List Entry) (t k id : ℕ) : Type 0 where
  entry : Entry
  at : slice_get list k ≡ Some entry
  held : holds t entry ≡ true
  is : entry.terminal ≡ id

given : (b : Bool) (y z : ℕ) → cond b (Some y) None ≡ Some z → (b ≡ true) × (y ≡ z)
given true y z e = (refl, cc)
given false y z e = absurd cc

id_facts : (list : List Entry) (t k id : ℕ) → id_entry list t k ≡ Some id → IdFacts list t k id
unfolding id_entry
id_facts list t k id e = elim (at_place list k) [
  | absent n ↦ absurd (let w : None ≡ Some id = sym (ap (option_and_then (λ x. cond (holds t x) (Some x.terminal) None)) n) ∙ e in cc)
  | present x p ↦
      let g = given (holds t x) x.terminal id (sym (ap (option_and_then (λ x. cond (holds t x) (Some x.terminal) None)) p) ∙ e) in
      record { entry = x; at = p; held = g.0; is = g.1 }
]

-- two of them differ
ids_differ : (list : List Entry) (t i k a b : ℕ) → doubled list ≡ None → i < k → id_entry list t i ≡ Some a → id_entry list t k ≡ Some b → eqb a b ≡ false
ids_differ list t i k a b single h p q =
    let x = id_facts list t i a p in
    let y = id_facts list t k b q in
    ne_eqb a b (λ same.
    let ended : end_of x.entry ≤ y.entry.moment = ended_before list single i k x.entry y.entry h x.at y.at (x.is ∙ same ∙ sym y.is) in
    let on : t < end_of x.entry = held_to t x.entry x.held in
    let begun : y.entry.moment ≤ t = held_from t y.entry y.held in
    omega arith)

behind_differ : (list : List Entry) (t i a b n : ℕ) → doubled list ≡ None → id_entry list t i ≡ Some a → i < b → AllByRecursion (λ y. eqb a y ≡ false) (ids list t b n)
unfolding ids
behind_differ list t i a b zero single p h = tt
behind_differ list t i a b (suc n) single p h =
    all_cons (λ y. eqb a y ≡ false) (id_entry list t b) (filter_map (id_entry list t) (range_with_len (b + 1) n))
    (λ y e. ids_differ list t i b a y single h p e)
    (behind_differ list t i a (b + 1) n single p (omega arith))

distinct_cons : (o : Option ℕ) (ys : List ℕ) → ((y : ℕ) → o ≡ Some y → AllByRecursion (λ z. eqb y z ≡ false) ys) → IsDistinct eqb ys → IsDistinct eqb (cons_option o ys)
unfolding IsDistinct
distinct_cons None ys h d = d
distinct_cons (Some y) ys h d = (h y refl, d)

nothing_distinct : IsDistinct eqb []
unfolding IsDistinct
nothing_distinct = tt

ids_distinct : (list : List Entry) (t a n : ℕ) → doubled list ≡ None → IsDistinct eqb (ids list t a n)
unfolding ids
ids_distinct list t a zero single = nothing_distinct
ids_distinct list t a (suc n) single =
    distinct_cons (id_entry list t a) (filter_map (id_entry list t) (range_with_len (a + 1) n))
    (λ y e. behind_differ list t a y (a + 1) n single e (omega arith))
    (ids_distinct list t (a + 1) n single)

-- and are terminals
all_any : (P : ℕ → Type 0) (xs : List ℕ) → AllByRecursion P xs → (q : ℕ) → list_any (eqb q) xs ≡ true → P q
all_any P [] a q h = absurd (true≢false (sym h))
all_any P (x ∷ xs) a q h =
    elim (or_cases (eqb q x) (list_any (eqb q) xs) h) [
      | inl same ↦ subst P (sym (eqb-true q x same)) a.0
      | inr more ↦ all_any P xs a.1 q more
    ]

ids_low : (list : List Entry) (t a n : ℕ) → AllByRecursion IsTransmission list → AllByRecursion (λ id. id < 129) (ids list t a n)
unfolding ids
ids_low list t a zero entries = tt
ids_low list t a (suc n) entries =
    all_cons (λ id. id < 129) (id_entry list t a) (filter_map (id_entry list t) (range_with_len (a + 1) n))
    (λ y e.
    let x = id_facts list t a y e in
    let low : x.entry.terminal ≤ 128 = (of_each IsTransmission list entries x.entry (at_in list a x.entry x.at)).low in
    let is : x.entry.terminal ≡ y = x.is in
    omega arith)
    (ids_low list t (a + 1) n entries)

-- as many as live transmissions
cons_length : {X Y : Type 0} (o : Option X) (p : Option Y) (b : Bool) (x : X) (y : Y) (xs : List X) (ys : List Y) → o ≡ cond b (Some x) None → p ≡ cond b (Some y) None
    → length xs ≡ length ys → length (cons_option o xs) ≡ length (cons_option p ys)
cons_length o p true x y xs ys e f h = ap (λ o. length (cons_option o xs)) e ∙ ap suc h ∙ sym (ap (λ p. length (cons_option p ys)) f)
cons_length o p false x y xs ys e f h = ap (λ o. length (cons_option o xs)) e ∙ h ∙ sym (ap (λ p. length (cons_option p ys)) f)

as_many : (list : List Entry) (t a n : ℕ) → length (filter_map (live_entry list t) (range_with_len a n)) ≡ length (ids list t a n)
unfolding ids id_entry
as_many list t a zero = refl
as_many list t a (suc n) = elim (at_place list a) [
  | absent e ↦
      ap (λ o. length (cons_option o (filter_map (live_entry list t) (range_with_len (a + 1) n)))) (live_none list t a e)
      ∙ as_many list t (a + 1) n
      ∙ sym (ap (λ o. length (cons_option (option_and_then (λ x. cond (holds t x) (Some x.terminal) None) o) (ids list t (a + 1) n))) e)
  | present x e ↦
      cons_length (live_entry list t a) (id_entry list t a) (holds t x) (live_of list a x) x.terminal _ _ (live_some list t a x e)
      (ap (option_and_then (λ x. cond (holds t x) (Some x.terminal) None)) e) (as_many list t (a + 1) n)
]

pub few_live : (list : List Entry) (t n : ℕ) → IsWalkable list → length (live_to list t n) ≤ 129
few_live list t n w =
    let few : length (ids list t 0 n) ≤ 129 = length-le_from_distinct_below (ids list t 0 n) 129 (ids_distinct list t 0 n w.single)
    (all_any (λ id. id < 129) (ids list t 0 n) (ids_low list t 0 n w.entries)) in
    omega (arith, as_many list t 0 n)
