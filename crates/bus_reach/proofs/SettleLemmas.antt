-- An aperiodic table that starts itself settles, whenever its senders are powered up.
use Rattle.std.proofs.Common.{◌≡◌, ℕ, ◌+◌, ◌<◌, ◌≤◌, Bool, true, false, cond, ltb, List, [], ◌∷◌, ◌++◌, zero, suc, ◌⊎◌, ◌*◌, drop, length, inl, inr, arith, sym, refl, ap, ◌∙◌, subst}
use Rattle.std.specs.Prelude.{IsTrue, nat_le}
use Rattle.std.specs.List.{list_all, filter, AllByRecursion}
use Rattle.std.proofs.lemmas.Bool.{cases_lt, cases_eq, and_parts, and_right, le-ltb, lt-ltb, lt-leb, leb-true, le-leb}
use Rattle.bus_strings.specs.Members.{In}
use Rattle.bus_strings.proofs.MemberLaws.{in_filter, from_filter, all_in}
use Rattle.bus_strings.specs.Messages.{Entry}
use Rattle.bus_strings.specs.Transmissions.{end_of, overlaps, IsOrdered, IsAscending, Precedes}
use Rattle.bus_table.specs.declared.mode.Mode.TheVariants.{Aperiodic}
use Rattle.bus_table.specs.Tables.{Sender, Table, Hand}
use Rattle.bus_table.specs.Lengths.{shortest}
use Rattle.bus_table.specs.Hands.{are_hands}
use Rattle.bus_table.specs.Turns.{turn_key, turn_order}
use Rattle.bus_table.specs.inside.Orders.{Rises}
use Rattle.bus_table.proofs.TurnLaws.{numbers_differ, order_rises, from_sort, in_sort, length-sort}
use Rattle.bus_table.specs.Valid.{is_valid}
use Rattle.bus_table.proofs.ValidLaws.{valid_facts}
use Rattle.std.proofs.lemmas.List.{length_push}
use Rattle.bus_regime.proofs.StartingLaws.{started_accepted}
use Rattle.bus_medium.specs.Lawful.{HasEntry}
use Rattle.bus_medium.specs.Past.{own}
use Rattle.bus_medium.proofs.AscendingLaws.{behind_in}
use Rattle.bus_medium.proofs.PastLaws.{own_later, own_more}
use Rattle.bus_medium.proofs.Hearing.{own_none}
use Rattle.bus_medium.specs.Timings.{quiet_of, stations_of}
use Rattle.bus_medium.proofs.StationLaws.{timings_are_sound}
use Rattle.bus_schedule.specs.Even.{messages_of}
use Rattle.bus_schedule.specs.Runs.{IsClear}
use Rattle.bus_medium.specs.CableLawful.{IsLawfulOnCable}
use Rattle.bus_regime.specs.Starting.{starts_itself}
use Rattle.bus_reach.specs.Settling.{behind, until, InRounds, AreRounds, Begins, rounds_from, HasSettled, HaveLeft, AnyStartSettles, LongHandsLast, StartsItselfIsAccepted}
use Rattle.bus_reach.proofs.Calming.{weight, Calm, calm}
use Rattle.bus_reach.proofs.Cycling.{Left, Turn, in_rounds}
use Rattle.bus_schedule.proofs.HandLemmas.{own_fit}
use Rattle.bus_reach.proofs.Sending.{law_of}
use Rattle.bus_reach.proofs.Minding.{Bus, Clock}
use Rattle.bus_reach.proofs.Streaming.{Counted, begins, in_stream}

all_filter : (P : Entry → Type 0) (p : Entry → Bool) (xs : List Entry) → AllByRecursion P xs → AllByRecursion P (filter p xs)
all_filter P p [] a = tt
all_filter P p (x ∷ xs) a = elim (p x) as (λ b. AllByRecursion P (cond b (x ∷ filter p xs) (filter p xs))) [
  | true ↦ (a.0, all_filter P p xs a.1)
  | false ↦ all_filter P p xs a.1
]

ordered_filter : (R : Entry → Entry → Type 0) (p : Entry → Bool) (xs : List Entry) → IsOrdered R xs → IsOrdered R (filter p xs)
ordered_filter R p [] o = tt
ordered_filter R p (x ∷ xs) o = elim (p x) as (λ b. IsOrdered R (cond b (x ∷ filter p xs) (filter p xs))) [
  | true ↦ (all_filter (R x) p xs o.0, ordered_filter R p xs o.1)
  | false ↦ ordered_filter R p xs o.1
]

-- a list that ascends is what starts before a moment, and then the rest
all_later : (t : ℕ) (xs : List Entry) → ((x : Entry) → In x xs → t ≤ x.moment) → xs ≡ until t xs ++ behind t xs
all_later t [] h = refl
all_later t (x ∷ xs) h =
    let here : t ≤ x.moment = h x (inl refl) in
    ap (λ ys. x ∷ ys) (all_later t xs (λ y i. h y (inr i)))
    ∙ ap (λ ys. x ∷ (ys ++ behind t xs)) (none_before xs (λ y i. h y (inr i)))
    ∙ sym (ap (λ b. cond (ltb x.moment t) (x ∷ until t xs) (until t xs) ++ cond b (x ∷ behind t xs) (behind t xs)) (le-leb t x.moment here)
    ∙ ap (λ b. cond b (x ∷ until t xs) (until t xs) ++ x ∷ behind t xs) (le-ltb x.moment t here) ∙ ap (λ ys. ys ++ x ∷ behind t xs) (none_before xs (λ y i. h y (inr i))))
  where
    none_before : (ys : List Entry) → ((y : Entry) → In y ys → t ≤ y.moment) → until t ys ≡ []
    none_before [] k = refl
    none_before (y ∷ ys) k = ap (λ b. cond b (y ∷ until t ys) (until t ys)) (le-ltb y.moment t (k y (inl refl))) ∙ none_before ys (λ z i. k z (inr i))

in_parts : (t : ℕ) (xs : List Entry) → IsAscending xs → xs ≡ until t xs ++ behind t xs
in_parts t [] o = refl
in_parts t (x ∷ xs) o = elim (cases_lt x.moment t) [
  | inl early ↦
      ap (λ ys. x ∷ ys) (in_parts t xs o.1)
      ∙ sym (ap (λ b. cond b (x ∷ until t xs) (until t xs) ++ behind t (x ∷ xs)) (lt-ltb x.moment t early)
      ∙ ap (λ b. (x ∷ until t xs) ++ cond b (x ∷ behind t xs) (behind t xs)) (lt-leb t x.moment early))
  | inr late ↦ all_later t (x ∷ xs) (λ y i. elim i [
    | inl same ↦ let e : y.moment ≡ x.moment = ap (λ (z : Entry). z.moment) same in omega arith
    | inr there ↦ elim (behind_in x xs y o.0 there) [
      | inl less ↦ omega arith
      | inr now ↦ let e : x.moment ≡ y.moment = now.0 in omega arith
    ]
  ])
]

all_start : (p : Sender → Bool) (l : List Sender) → list_all p l ≡ true → (b : Sender) → In b l → p b ≡ true
all_start p [] h b i = absurd i
all_start p (a ∷ l) h b (inl same) = ap p same ∙ (and_parts (p a) (list_all p l) h).0
all_start p (a ∷ l) h b (inr i) = all_start p l (and_parts (p a) (list_all p l) h).1 b i

-- in rounds nobody starts before the end of the one before
module _ (sg : ℕ) (first : Sender) (others : List Sender) (horizon : ℕ) where
  no_sooner : (ys : List Entry) (a : Sender) (rest : List Sender) (from : ℕ) → InRounds sg first others horizon a rest from ys → (y : Entry) → In y ys → from ≤ y.moment
  no_sooner [] a rest from h y i = absurd i
  no_sooner (x ∷ ys) a [] from h y (inl same) = let e : y.moment ≡ x.moment = ap (λ (w : Entry). w.moment) same in let f : x.moment ≡ from + a.tg = h.1 in omega arith
  no_sooner (x ∷ ys) a [] from h y (inr i) = let f : x.moment ≡ from + a.tg = h.1 in let k : end_of x + sg ≤ y.moment = no_sooner ys first others (end_of x + sg) h.2 y i in omega arith
  no_sooner (x ∷ ys) a (b ∷ rest) from h y (inl same) = let e : y.moment ≡ x.moment = ap (λ (w : Entry). w.moment) same in let f : x.moment ≡ from + a.tg = h.1 in omega arith
  no_sooner (x ∷ ys) a (b ∷ rest) from h y (inr i) = let f : x.moment ≡ from + a.tg = h.1 in let k : end_of x ≤ y.moment = no_sooner ys b rest (end_of x) h.2 y i in omega arith

  apart : (x y : Entry) → end_of x ≤ y.moment → overlaps x y ≡ false
  apart x y h = and_right (ltb x.moment (end_of y)) (ltb y.moment (end_of x)) (le-ltb y.moment (end_of x) h)

  clear : (ys : List Entry) (a : Sender) (rest : List Sender) (from : ℕ) → InRounds sg first others horizon a rest from ys → IsClear ys
  clear [] a rest from h = tt
  clear (x ∷ ys) a [] from h = (
    all_in (λ y. overlaps x y ≡ false) ys (λ y i. let k : end_of x + sg ≤ y.moment = no_sooner ys first others (end_of x + sg) h.2 y i in apart x y (omega arith)),
    clear ys first others (end_of x + sg) h.2,
  )
  clear (x ∷ ys) a (b ∷ rest) from h =
      (all_in (λ y. overlaps x y ≡ false) ys (λ y i. apart x y (no_sooner ys b rest (end_of x) h.2 y i)), clear ys b rest (end_of x) h.2)

rounds_clear : (sg : ℕ) (order : List Sender) (horizon from : ℕ) (ys : List Entry) → AreRounds sg order horizon from ys → IsClear ys
rounds_clear sg [] horizon from ys h = subst IsClear (sym h) tt
rounds_clear sg (first ∷ others) horizon from ys h = clear sg first others horizon ys first others from h

-- what is given, as the bus of the lemmas
abbrev bus_of : (table : Table) (hands : List Hand) (wake : ℕ → ℕ) (horizon : ℕ) (list : List Entry) → IsTrue (is_valid table) → table.mode ≡ Aperiodic
    → IsTrue (starts_itself table) → IsTrue (are_hands table.senders hands) → HaveLeft table hands horizon list
    → IsLawfulOnCable (quiet_of table) (λ _ _. 0) wake (stations_of table hands) horizon list → Bus
bus_of table hands wake horizon list valid mode starts dealt left law = record {
  table = table;
  hands = messages_of hands;
  wake = wake;
  end = horizon;
  list = list;
  mode = mode;
  facts = valid_facts table valid;
  sound = λ b i. timings_are_sound table b valid i;
  fit = own_fit table.senders hands dealt (numbers_differ table (valid_facts table valid));
  law = law_of table hands wake horizon list valid mode dealt law;
  left = left;
  starts = λ b i. leb-true table.ti (table.sg + b.tg + shortest b) (all_start (λ c. nat_le table.ti (table.sg + c.tg + shortest c)) table.senders starts b i);
}

module _ (s : Bus) (up : ℕ) (wakes : (b : Sender) → In b s.table.senders → s.wake b.number ≤ up + s.table.sg)
    (room : up + (s.table.sg + weight s.table.senders) + s.table.sg ≤ s.end) (c : Calm s up wakes room) where
  left : Left s c.v (behind (c.v + s.table.sg) s.list)
  left = record {
    ordered = ordered_filter Precedes (λ x. nat_le (c.v + s.table.sg) x.moment) s.list s.law.ordered;
    from = λ x i.
        let f = from_filter (λ y. nat_le (c.v + s.table.sg) y.moment) s.list x i in
        let k : c.v + s.table.sg ≤ x.moment = leb-true (c.v + s.table.sg) x.moment f.1 in
        (f.0, omega arith);
    has = λ x i low. in_filter (λ y. nat_le (c.v + s.table.sg) y.moment) s.list x i (le-leb (c.v + s.table.sg) x.moment (c.idle x i low));
  }

  -- all count from there
  turn : (a : Sender) (others : List Sender) → Rises (λ b. b.tg) (a ∷ others) → ((b : Sender) → In b (a ∷ others) → In b s.table.senders)
      → ((b : Sender) → In b s.table.senders → In b (a ∷ others)) → Turn s c.v (c.v + s.table.sg) a others
  turn a others rises of_table in_order = record {
    ended = c.rest;
    low = omega arith;
    woken = λ b i. (let w : s.wake b.number ≤ up + s.table.sg = wakes b i in let low : up ≤ c.v = c.low in omega arith);
    rises = rises;
    counts = λ b j. (of_table b j, subst (Clock s b c.v) (let e : s.table.sg + c.v + s.table.sg ≡ s.table.sg + (c.v + s.table.sg) = omega arith in e) (c.out b (of_table b j)));
    others = λ b i. inl (in_order b i);
  }

  counted : (a : Sender) (others : List Sender) → ((b : Sender) → In b s.table.senders → In b (a ∷ others))
      → Counted s (λ number. length (own s.list number (c.v + s.table.sg))) c.v 0 a others
  counted a others in_order = record {
    due = λ b j.
        let same : length (own s.list b.number (c.v + s.table.sg)) ≡ length (own s.list b.number c.v) =
        ap length (own_later s.list b.number c.v (c.v + s.table.sg) (omega arith) (λ x i mine low high. let k : c.v + s.table.sg ≤ x.moment = c.idle x i low in omega arith)) in
        omega arith;
    done = λ b i. inl (in_order b i);
  }

  rounds : (order : List Sender) → Rises (λ b. b.tg) order → ((b : Sender) → In b order → In b s.table.senders) → ((b : Sender) → In b s.table.senders → In b order)
      → (some : 0 < length s.table.senders) → AreRounds s.table.sg order s.end (c.v + s.table.sg) (behind (c.v + s.table.sg) s.list)
  rounds [] rises of_table in_order some = absurd (none s.table.senders some (λ b i. in_order b i))
    where
      none : (l : List Sender) → 0 < length l → ((b : Sender) → In b l → ⊥) → ⊥
      none [] h k = omega arith
      none (a ∷ l) h k = k a (inl refl)
  rounds (a ∷ others) rises of_table in_order some =
      in_rounds s a others rises of_table in_order (behind (c.v + s.table.sg) s.list) c.v (c.v + s.table.sg) a others (turn a others rises of_table in_order) left

  closed : (order : List Sender) → Rises (λ b. b.tg) order → ((b : Sender) → In b order → In b s.table.senders) → ((b : Sender) → In b s.table.senders → In b order)
      → (some : 0 < length order) → (n : ℕ) → length (behind (c.v + s.table.sg) s.list) ≤ n * length order
      → Begins (behind (c.v + s.table.sg) s.list)
      (rounds_from (λ number. drop (length (own s.list number (c.v + s.table.sg))) (s.hands number)) s.table.sg order (c.v + s.table.sg) n)
  closed [] rises of_table in_order some n enough = absurd (omega arith)
  closed (a ∷ others) rises of_table in_order some n enough =
      begins s.table.sg a others (λ number. drop (length (own s.list number (c.v + s.table.sg))) (s.hands number)) (behind (c.v + s.table.sg) s.list) (c.v + s.table.sg) n
      (in_stream s (λ number. length (own s.list number (c.v + s.table.sg))) a others rises of_table in_order (behind (c.v + s.table.sg) s.list) c.v (c.v + s.table.sg) a others 0
      (turn a others rises of_table in_order) left (counted a others in_order)) enough

settled : (s : Bus) (hands : List Hand) (up : ℕ) → s.hands ≡ messages_of hands → ((b : Sender) → In b s.table.senders → s.wake b.number ≤ up + s.table.sg)
    → up + (s.table.sg + weight s.table.senders) + s.table.sg ≤ s.end → HasSettled s.table hands up s.end s.list
settled s hands up same wakes room =
    let c : Calm s up wakes room = calm s up wakes room in
    let rises : Rises (λ b. b.tg) (turn_order s.table) = subst (λ m. Rises (turn_key m) (turn_order s.table)) s.mode (order_rises s.table s.facts) in
    let in_order : AreRounds s.table.sg (turn_order s.table) s.end (c.v + s.table.sg) (behind (c.v + s.table.sg) s.list) =
    rounds s up wakes room c (turn_order s.table) rises
    (λ b i. from_sort (turn_key s.table.mode) s.table.senders b i) (λ b i. in_sort (turn_key s.table.mode) s.table.senders b i) s.facts.some in
    let soon : c.v ≤ up + (s.table.sg + weight s.table.senders) = c.soon in
    let long : length (turn_order s.table) ≡ length s.table.senders = length-sort (turn_key s.table.mode) s.table.senders in
    let several : 0 < length s.table.senders = s.facts.some in
    let some : 0 < length (turn_order s.table) = omega arith in
    record {
      origin = c.v + s.table.sg;
      soon = omega arith;
      parts = in_parts (c.v + s.table.sg) s.list s.law.ordered;
      rounds = in_order;
      closed = λ n enough.
          subst (λ m. Begins (behind (c.v + s.table.sg) s.list) (rounds_from (λ number. drop (length (own s.list number (c.v + s.table.sg))) (m number)) s.table.sg (turn_order s.table) (c.v + s.table.sg) n)) same
          (closed s up wakes room c (turn_order s.table) rises
          (λ b i. from_sort (turn_key s.table.mode) s.table.senders b i) (λ b i. in_sort (turn_key s.table.mode) s.table.senders b i) some n
          (subst (λ k. length (behind (c.v + s.table.sg) s.list) ≤ n * k) (sym long) enough));
      clear = rounds_clear s.table.sg (turn_order s.table) s.end (c.v + s.table.sg) (behind (c.v + s.table.sg) s.list) in_order;
      quiet = λ x i less. elim (cases_lt x.moment c.v) [
        | inl before ↦ (let k : end_of x ≤ c.v = c.rest x i before in omega arith)
        | inr after ↦ (let k : c.v + s.table.sg ≤ x.moment = c.idle x i after in absurd (omega arith))
      ];
      once = λ x y i j same from less. c.idle y j (c.once x y i j same from less);
    }

pub any_start_settles : AnyStartSettles
any_start_settles table hands wake up horizon list valid mode starts dealt powered messages room law =
    settled (bus_of table hands wake horizon list valid mode starts dealt messages law) hands up refl powered room

-- at each moment a terminal starts once at most
has_or_not : (l : List Entry) (n t : ℕ) → HasEntry l n t ⊎ (HasEntry l n t → ⊥)
has_or_not [] n t = inr (λ h. h.there)
has_or_not (z ∷ l) n t = elim (has_or_not l n t) [
  | inl h ↦ inl (record { entry = h.entry; there = inr h.there; moment = h.moment; terminal = h.terminal })
  | inr none ↦ elim (cases_eq z.moment t) [
    | inr other ↦ inr (λ h. elim h.there [
      | inl same ↦ other (sym (ap (λ (w : Entry). w.moment) same) ∙ h.moment)
      | inr i ↦ none (record { entry = h.entry; there = i; moment = h.moment; terminal = h.terminal })
    ])
    | inl now ↦ elim (cases_eq z.terminal n) [
      | inr other ↦ inr (λ h. elim h.there [
        | inl same ↦ other (sym (ap (λ (w : Entry). w.terminal) same) ∙ h.terminal)
        | inr i ↦ none (record { entry = h.entry; there = i; moment = h.moment; terminal = h.terminal })
      ])
      | inl mine ↦ inl (record { entry = z; there = inl refl; moment = now; terminal = mine })
    ]
  ]
]

few : (l : List Entry) (n t : ℕ) → IsAscending l → length (own l n t) ≤ t
few l n zero o = let e : length (own l n 0) ≡ 0 = ap length (own_none l n 0 (λ x i mine. omega arith)) in omega arith
few l n (suc t) o =
    let so : length (own l n t) ≤ t = few l n t o in
    elim (has_or_not l n t) [
      | inl h ↦
          let more : own l n (h.entry.moment + 1) ≡ own l n h.entry.moment ++ h.entry ∷ [] =
          subst (λ m. own l m (h.entry.moment + 1) ≡ own l m h.entry.moment ++ h.entry ∷ []) h.terminal (own_more l h.entry o h.there) in
          let now : own l n (t + 1) ≡ own l n t ++ h.entry ∷ [] = subst (λ m. own l n (m + 1) ≡ own l n m ++ h.entry ∷ []) h.moment more in
          let long : length (own l n (t + 1)) ≡ length (own l n t) + 1 = ap length now ∙ length_push (own l n t) h.entry in
          let next : length (own l n (suc t)) ≡ length (own l n (t + 1)) = ap (λ m. length (own l n m)) (let e : suc t ≡ t + 1 = omega arith in e) in
          omega arith
      | inr none ↦
          let same : length (own l n (suc t)) ≡ length (own l n t) = ap length (own_later l n t (suc t) (omega arith) (λ x i mine low high.
          none (record { entry = x; there = i; moment = omega arith; terminal = mine }))) in
          omega arith
    ]

pub long_hands_last : LongHandsLast
long_hands_last table hands wake horizon list long law sender t i less =
    let enough : horizon ≤ length (messages_of hands sender.number) = long sender i in
    let some : length (own list sender.number t) ≤ t = few list sender.number t law.ordered in
    omega arith

pub starts_itself_is_accepted : StartsItselfIsAccepted
starts_itself_is_accepted table valid mode starts = started_accepted table valid mode starts
