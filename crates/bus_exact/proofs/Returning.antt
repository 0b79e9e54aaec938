-- What the order of the course says of the list.
use Rattle.std.proofs.Common.{◌≡◌, ℕ, suc, ◌+◌, ◌<◌, ◌≤◌, cond, List, [], ◌∷◌, ◌++◌, map, length, inl, inr, arith, sym, refl, ap, ◌∙◌, subst, lt-ltb, le-ltb, le-leb}
use Rattle.std.proofs.lemmas.Bool.{lt-leb}
use Rattle.bus_strings.specs.Members.{In}
use Rattle.bus_strings.proofs.MemberLaws.{all_in}
use Rattle.bus_strings.specs.Messages.{Entry, bits}
use Rattle.bus_strings.specs.Transmissions.{end_of, IsOrdered}
use Rattle.bus_table.specs.Tables.{Sender}
use Rattle.bus_reach.specs.Settling.{behind, until}
use Rattle.bus_clocks.specs.Courses.{HasMore}
use Rattle.bus_clocks.specs.Entries.{Entry as Sending, AreClear}
use Rattle.bus_clocks.specs.Rounds.{InRounds, AreSpaced, Follows, next}
use Rattle.bus_exact.specs.Exact.{value_at, place_of}
use Rattle.bus_exact.specs.Settling.{InRoundsWithin, AreRoundsWithin, ComesAgain, ComeAgain}
use Rattle.bus_exact.proofs.Ticks.{Case, order, bus, tick, number, course, number_of, to_among}

cons_head : (x y : Sending) (l m : List Sending) → x ∷ l ≡ y ∷ m → x ≡ y
cons_head x y l m h = cc

cons_tail : (x y : Sending) (l m : List Sending) → x ∷ l ≡ y ∷ m → l ≡ m
cons_tail x y l m h = cc

nil_cons : (y : Sending) (m : List Sending) → [] ≡ y ∷ m → ⊥
nil_cons y m h = absurd cc

value_in : (f : Sender → ℕ) (done : List Sender) (a : Sender) (rest : List Sender) → value_at f (done ++ a ∷ rest) (length done) ≡ f a
value_in f [] a rest = refl
value_in f (c ∷ done) a rest = value_in f done a rest

length_at : (done : List Sender) (a : Sender) (rest : List Sender) → length (done ++ a ∷ rest) ≡ length done + suc (length rest)
length_at [] a rest = (let e : suc (length rest) ≡ 0 + suc (length rest) = omega arith in e)
length_at (c ∷ done) a rest =
    let e : length (done ++ a ∷ rest) ≡ length done + suc (length rest) = length_at done a rest in
    (let f : suc (length (done ++ a ∷ rest)) ≡ suc (length done) + suc (length rest) = omega arith in f)

push_length : (done : List Sender) (a : Sender) → length (done ++ a ∷ []) ≡ suc (length done)
push_length [] a = refl
push_length (c ∷ done) a = ap suc (push_length done a)

push_assoc : (done : List Sender) (a : Sender) (rest : List Sender) → done ++ a ∷ rest ≡ (done ++ a ∷ []) ++ rest
push_assoc [] a rest = refl
push_assoc (c ∷ done) a rest = ap (λ l. c ∷ l) (push_assoc done a rest)

next_on : (n k : ℕ) → suc k < n → next n k ≡ suc k
next_on n k less = ap (λ b. cond b (suc k) 0) (lt-ltb (suc k) n less)

next_over : (n k : ℕ) → n ≤ suc k → next n k ≡ 0
next_over n k more = ap (λ b. cond b (suc k) 0) (le-ltb (suc k) n more)

-- ---- the two parts

until_all : (t : ℕ) (a b : List Entry) → ((x : Entry) → In x a → x.moment < t) → ((x : Entry) → In x b → t ≤ x.moment) → until t (a ++ b) ≡ a
until_all t [] [] early later = refl
until_all t [] (x ∷ b) early later =
    ap (λ z. cond z (x ∷ until t b) (until t b)) (le-ltb x.moment t (later x (inl refl))) ∙ until_all t [] b early (λ y i. later y (inr i))
until_all t (x ∷ a) b early later =
    ap (λ z. cond z (x ∷ until t (a ++ b)) (until t (a ++ b))) (lt-ltb x.moment t (early x (inl refl))) ∙ ap (λ l. x ∷ l) (until_all t a b (λ y i. early y (inr i)) later)

behind_all : (t : ℕ) (a b : List Entry) → ((x : Entry) → In x a → x.moment < t) → ((x : Entry) → In x b → t ≤ x.moment) → behind t (a ++ b) ≡ b
behind_all t [] [] early later = refl
behind_all t [] (x ∷ b) early later =
    ap (λ z. cond z (x ∷ behind t b) (behind t b)) (le-leb t x.moment (later x (inl refl))) ∙ ap (λ l. x ∷ l) (behind_all t [] b early (λ y i. later y (inr i)))
behind_all t (x ∷ a) b early later =
    ap (λ z. cond z (x ∷ behind t (a ++ b)) (behind t (a ++ b))) (lt-leb t x.moment (early x (inl refl))) ∙ behind_all t a b (λ y i. early y (inr i)) later

pub parts_are : (t : ℕ) (list a b : List Entry) → list ≡ a ++ b → ((x : Entry) → In x a → x.moment < t) → ((x : Entry) → In x b → t ≤ x.moment)
    → (until t list ≡ a) × (behind t list ≡ b)
parts_are t list a b whole early later =
    (ap (until t) whole ∙ until_all t a b early later, ap (behind t) whole ∙ behind_all t a b early later)

module _ (s : Case) where
  pub record Split (l : List Entry) (a b : List Sending) : Type 0 where
    pub first : List Entry
    pub second : List Entry
    pub whole : l ≡ first ++ second
    pub is_first : map (tick s) first ≡ a
    pub is_second : map (tick s) second ≡ b

  pub split : (l : List Entry) (a b : List Sending) → map (tick s) l ≡ a ++ b → Split l a b
  split l [] b h = record { first = []; second = l; whole = refl; is_first = refl; is_second = h }
  split [] (y ∷ a) b h = absurd (nil_cons y (a ++ b) h)
  split (x ∷ l) (y ∷ a) b h =
      let r : Split l a b = split l a b (cons_tail (tick s x) y (map (tick s) l) (a ++ b) h) in
      record {
        first = x ∷ r.first;
        second = r.second;
        whole = ap (λ m. x ∷ m) r.whole;
        is_first = ap (λ m. tick s x ∷ m) r.is_first ∙ ap (λ z. z ∷ a) (cons_head (tick s x) y (map (tick s) l) (a ++ b) h);
        is_second = r.is_second;
      }

  -- where a round counts from
  abbrev Match : List Sender → ℕ → ℕ → Type 0
  Match [] v from = v ≡ from
  Match (c ∷ done) v from = v ≡ s.table.sg + from

  -- somebody has messages left up to the horizon
  module _ (have : (k : ℕ) → k < length (order s) → HasMore (course s) k) (some : 0 < length (order s)) where
    module _ (first : Sender) (others : List Sender) (whole : order s ≡ first ∷ others) where
      who : (x : Entry) → In x s.list → (done : List Sender) (a : Sender) (rest : List Sender) → order s ≡ done ++ a ∷ rest → place_of (order s) x.terminal ≡ length done → x.terminal ≡ a.number
      who x i done a rest is at =
          sym (number_of s x i) ∙ ap (number s) at ∙ ap (λ l. value_at (λ b. b.number) l (length done)) is ∙ value_in (λ b. b.number) done a rest

      tg_at : (done : List Sender) (a : Sender) (rest : List Sender) → order s ≡ done ++ a ∷ rest → value_at (λ b. b.tg) (order s) (length done) ≡ a.tg
      tg_at done a rest is = ap (λ l. value_at (λ b. b.tg) l (length done)) is ∙ value_in (λ b. b.tg) done a rest

      abbrev On : ℕ → ℕ → List Entry → Type 0
      On a v l = InRounds (bus s) (course s) a v (map (tick s) l)

      rounds_on : (l : List Entry) → ((x : Entry) → In x l → In x s.list) → (done : List Sender) (a : Sender) (rest : List Sender) → order s ≡ done ++ a ∷ rest → (v from : ℕ) → Match done v from
          → On (length done) v l → InRoundsWithin s.d s.table.sg first others s.end a rest from l
      rounds_on [] sub [] a rest is v from m r =
          let tg : value_at (λ b. b.tg) (order s) 0 ≡ a.tg = tg_at [] a rest is in
          let late : s.table.sg + s.end ≤ v + s.d + s.table.sg + value_at (λ b. b.tg) (order s) 0 = r 0 some (have 0 some) in
          omega arith
      rounds_on [] sub (c ∷ done) a rest is v from m r =
          let tg : value_at (λ b. b.tg) (order s) (suc (length done)) ≡ a.tg = tg_at (c ∷ done) a rest is in
          let late : s.table.sg + s.end ≤ v + s.d + value_at (λ b. b.tg) (order s) (suc (length done)) = r 0 some (have 0 some) in
          omega arith
      rounds_on (x ∷ l) sub [] a [] is v from m r =
          let tg : value_at (λ b. b.tg) (order s) 0 ≡ a.tg = tg_at [] a [] is in
          let low : v + s.table.sg + value_at (λ b. b.tg) (order s) 0 ≤ s.table.sg + x.moment = r.1 in
          let high : s.table.sg + x.moment ≤ v + s.d + s.table.sg + value_at (λ b. b.tg) (order s) 0 = r.2 in
          let long : length (order s) ≡ 1 = ap length is in (
            who x (sub x (inl refl)) [] a [] is r.0,
            omega arith,
            omega arith,
            rounds_on l (λ y i. sub y (inr i)) [] first others whole (s.table.sg + x.moment + bits x.message) (end_of x + s.table.sg) (omega arith)
                (subst (λ n. On n (s.table.sg + x.moment + bits x.message) l) (next_over (length (order s)) 0 (omega arith)) r.3),
          )
      rounds_on (x ∷ l) sub (c ∷ done) a [] is v from m r =
          let tg : value_at (λ b. b.tg) (order s) (suc (length done)) ≡ a.tg = tg_at (c ∷ done) a [] is in
          let low : v + value_at (λ b. b.tg) (order s) (suc (length done)) ≤ s.table.sg + x.moment = r.1 in
          let high : s.table.sg + x.moment ≤ v + s.d + value_at (λ b. b.tg) (order s) (suc (length done)) = r.2 in
          let long : length (order s) ≡ suc (length done) + 1 = ap length is ∙ length_at (c ∷ done) a [] in (
            who x (sub x (inl refl)) (c ∷ done) a [] is r.0,
            omega arith,
            omega arith,
            rounds_on l (λ y i. sub y (inr i)) [] first others whole (s.table.sg + x.moment + bits x.message) (end_of x + s.table.sg) (omega arith)
                (subst (λ n. On n (s.table.sg + x.moment + bits x.message) l) (next_over (length (order s)) (suc (length done)) (omega arith)) r.3),
          )
      rounds_on (x ∷ l) sub [] a (b ∷ rest) is v from m r =
          let tg : value_at (λ b. b.tg) (order s) 0 ≡ a.tg = tg_at [] a (b ∷ rest) is in
          let low : v + s.table.sg + value_at (λ b. b.tg) (order s) 0 ≤ s.table.sg + x.moment = r.1 in
          let high : s.table.sg + x.moment ≤ v + s.d + s.table.sg + value_at (λ b. b.tg) (order s) 0 = r.2 in
          let long : length (order s) ≡ suc (suc (length rest)) = ap length is in (
            who x (sub x (inl refl)) [] a (b ∷ rest) is r.0,
            omega arith,
            omega arith,
            rounds_on l (λ y i. sub y (inr i)) (a ∷ []) b rest is (s.table.sg + x.moment + bits x.message) (end_of x) (omega arith)
                (subst (λ n. On n (s.table.sg + x.moment + bits x.message) l) (next_on (length (order s)) 0 (omega arith)) r.3),
          )
      rounds_on (x ∷ l) sub (c ∷ done) a (b ∷ rest) is v from m r =
          let tg : value_at (λ b. b.tg) (order s) (suc (length done)) ≡ a.tg = tg_at (c ∷ done) a (b ∷ rest) is in
          let low : v + value_at (λ b. b.tg) (order s) (suc (length done)) ≤ s.table.sg + x.moment = r.1 in
          let high : s.table.sg + x.moment ≤ v + s.d + value_at (λ b. b.tg) (order s) (suc (length done)) = r.2 in
          let long : length (order s) ≡ suc (length done) + suc (suc (length rest)) = ap length is ∙ length_at (c ∷ done) a (b ∷ rest) in
          let more : length (done ++ a ∷ []) ≡ suc (length done) = push_length done a in (
            who x (sub x (inl refl)) (c ∷ done) a (b ∷ rest) is r.0,
            omega arith,
            omega arith,
            rounds_on l (λ y i. sub y (inr i)) (c ∷ (done ++ a ∷ [])) b rest (is ∙ ap (λ m. c ∷ m) (push_assoc done a (b ∷ rest))) (s.table.sg + x.moment + bits x.message) (end_of x) (omega arith)
                (subst (λ n. On n (s.table.sg + x.moment + bits x.message) l)
                (next_on (length (order s)) (suc (length done)) (omega arith) ∙ ap suc (sym more)) r.3),
          )

    pub are_rounds : (o : List Sender) → order s ≡ o → (l : List Entry) → ((x : Entry) → In x l → In x s.list) → (v : ℕ) → InRounds (bus s) (course s) 0 v (map (tick s) l)
        → AreRoundsWithin s.d s.table.sg o s.end v l
    are_rounds [] is l sub v r = (let none : length (order s) ≡ 0 = ap length is in absurd (omega arith))
    are_rounds (first ∷ others) is l sub v r = rounds_on first others is l sub [] first others is v v refl r

    comes_again : (least most : ℕ) (x : Entry) → In x s.list → place_of (order s) x.terminal < length (order s) → (l : List Entry) → ((y : Entry) → In y l → In y s.list)
        → Follows least most (course s) (tick s x) (map (tick s) l) → ComesAgain least most s.end x l
    comes_again least most x i known [] sub f =
        (let late : s.table.sg + s.end ≤ s.table.sg + x.moment + most = f (have (place_of (order s) x.terminal) known) in omega arith)
    comes_again least most x i known (y ∷ l) sub f = elim f [
      | inl p ↦
          let low : s.table.sg + x.moment + least ≤ s.table.sg + y.moment = p.1 in
          let high : s.table.sg + y.moment ≤ s.table.sg + x.moment + most = p.2 in
          inl (sym (number_of s y (sub y (inl refl))) ∙ ap (number s) p.0 ∙ number_of s x i, omega arith, omega arith)
      | inr p ↦ inr ((λ e. p.0 (ap (place_of (order s)) e)), comes_again least most x i known l (λ z j. sub z (inr j)) p.1)
    ]

    pub come_again : (least most : ℕ) (l : List Entry) → ((y : Entry) → In y l → In y s.list) → ((y : Entry) → In y s.list → place_of (order s) y.terminal < length (order s))
        → AreSpaced least most (course s) (map (tick s) l) → ComeAgain least most s.end l
    come_again least most [] sub known f = tt
    come_again least most (x ∷ l) sub known f =
        (comes_again least most x (sub x (inl refl)) (known x (sub x (inl refl))) l (λ z j. sub z (inr j)) f.0, come_again least most l (λ z j. sub z (inr j)) known f.1)

  -- no two at once
  pub apart : (d : ℕ) (l : List Entry) → AreClear d (map (tick s) l) → IsOrdered (λ x y. end_of x + d ≤ y.moment) l
  apart d [] c = tt
  apart d (x ∷ l) c = (
    all_in (λ y. end_of x + d ≤ y.moment) l (λ y i. let far : s.table.sg + x.moment + bits x.message + d ≤ s.table.sg + y.moment = c.0 (tick s y) (to_among s l y i) in omega arith),
    apart d l c.1,
  )

-- ---- rounds, in the table's words

module _ (d sg : ℕ) (first : Sender) (others : List Sender) (horizon : ℕ) where
  -- nobody starts before where it counts from
  no_sooner : (l : List Entry) (a : Sender) (rest : List Sender) (from : ℕ) → InRoundsWithin d sg first others horizon a rest from l → (y : Entry) → In y l → from ≤ y.moment
  no_sooner [] a rest from h y i = absurd i
  no_sooner (x ∷ l) a [] from h y (inl same) = let e : y.moment ≡ x.moment = ap (λ (w : Entry). w.moment) same in let f : from + a.tg ≤ x.moment = h.1 in omega arith
  no_sooner (x ∷ l) a [] from h y (inr i) = let f : from + a.tg ≤ x.moment = h.1 in let k : end_of x + sg ≤ y.moment = no_sooner l first others (end_of x + sg) h.3 y i in omega arith
  no_sooner (x ∷ l) a (b ∷ rest) from h y (inl same) = let e : y.moment ≡ x.moment = ap (λ (w : Entry). w.moment) same in let f : from + a.tg ≤ x.moment = h.1 in omega arith
  no_sooner (x ∷ l) a (b ∷ rest) from h y (inr i) = let f : from + a.tg ≤ x.moment = h.1 in let k : end_of x ≤ y.moment = no_sooner l b rest (end_of x) h.3 y i in omega arith

  -- of one alone each is a synchronization gap behind the end of the one before
  alone_apart : others ≡ [] → (l : List Entry) (from : ℕ) → InRoundsWithin d sg first others horizon first others from l → IsOrdered (λ x y. end_of x + sg ≤ y.moment) l
  alone_apart none [] from h = tt
  alone_apart none (x ∷ l) from h =
      let r : InRoundsWithin d sg first others horizon first [] from (x ∷ l) = subst (λ o. InRoundsWithin d sg first others horizon first o from (x ∷ l)) none h in (
        all_in (λ y. end_of x + sg ≤ y.moment) l (λ y i. no_sooner l first others (end_of x + sg) r.3 y i),
        alone_apart none l (end_of x + sg) r.3,
      )

pub sooner : (d sg horizon : ℕ) (o : List Sender) (from : ℕ) (l : List Entry) → AreRoundsWithin d sg o horizon from l → (y : Entry) → In y l → from ≤ y.moment
sooner d sg horizon [] from l h y i = absurd (subst (In y) h i)
sooner d sg horizon (first ∷ others) from l h y i = no_sooner d sg first others horizon l first others from h y i

pub one_apart : (d sg horizon : ℕ) (o : List Sender) (from : ℕ) (l : List Entry) → length o ≡ 1 → AreRoundsWithin d sg o horizon from l → IsOrdered (λ x y. end_of x + sg ≤ y.moment) l
one_apart d sg horizon [] from l one h = absurd (omega arith)
one_apart d sg horizon (first ∷ []) from l one h = alone_apart d sg first [] horizon refl l from h
one_apart d sg horizon (first ∷ second ∷ others) from l one h = absurd (omega arith)
