-- What some senders of a bus do is a course of the bus that has these senders alone.
use Rattle.std.proofs.Common.{◌≡◌, ℕ, zero, suc, ◌+◌, ◌*◌, ◌<◌, ◌≤◌, ◌⊎◌, Bool, true, false, ◌||◌, ◌&&◌, cond, eqb, ltb, List, [], ◌∷◌, length, Option, Some, None, inl, inr, arith, sym, refl, ap, ◌∙◌, subst, eq-eqb, eqb-true, ne_eqb}
use Rattle.std.specs.Prelude.{IfSome}
use Rattle.std.proofs.lemmas.Option.{none-some, same_Some}
use Rattle.std.proofs.lemmas.Bool.{cases_lt, cases_eq, cases_Bool, true≢false}
use Rattle.bus_clocks.specs.Buses.{Bus}
use Rattle.bus_clocks.specs.Entries.{Entry, In, IsAscending, end_of, own}
use Rattle.bus_clocks.specs.Hearing.{hears_any}
use Rattle.bus_clocks.specs.Courses.{Course, HasEntry, HasLeft, IsCourse, IsFresh, carrier}
use Rattle.bus_clocks.specs.Parts.{AliveSettle, ArePartAlone, IsPart, PartsHaveCourses, PartsHaveRoom, course_of, kept_before, of_others, of_part, part_of, place_in, placed_before}
use Rattle.bus_clocks.proofs.Alike.{Alike, alike_back, may_alike, hears_as}
use Rattle.bus_clocks.proofs.Hands.{count}
use Rattle.bus_clocks.proofs.Orders.{any_start_settles}
use Rattle.bus_clocks.proofs.Timers.{or_both, quiet_all, unheard}

-- ---- room

part_other : (bus : Bus) (part : ℕ → ℕ) (n i j : ℕ) → IsPart bus part n → i < n → j < n → (i ≡ j → ⊥) → part i ≡ part j → ⊥
part_other bus part n i j p one two other same = elim (cases_lt i j) [
  | inl less ↦ (let l : part i < part j = p.order i j less two in omega arith)
  | inr more ↦ (let l : part j < part i = p.order j i (omega arith) one in omega arith)
]

part_some : (bus : Bus) (part : ℕ → ℕ) (n i : ℕ) → IsPart bus part n → 0 < i → i < n → 0 < part i
part_some bus part n i p some known = (let l : part 0 < part i = p.order 0 i some known in omega arith)

pub parts_have_room : PartsHaveRoom
parts_have_room bus part n p room itself = (
  record {
    some = p.some;
    lasting = λ i known. room.lasting (part i) (p.known i known);
    whole = λ i known. room.whole (part i) (p.known i known);
    drop = λ i some known. room.drop (part i) (part_some bus part n i p some known) (p.known i known);
    turns = λ i j some less known. room.turns (part i) (part j) (part_some bus part n i p some (omega arith)) (p.order i j less known) (p.known j known);
    opening = λ i j less known. room.opening (part i) (part j) (p.order i j less known) (p.known j known);
    waiting = λ i j one two other. room.waiting (part i) (part j) (p.known i one) (p.known j two) (part_other bus part n i j p one two other);
    joining = λ i j less known. room.joining (part i) (part j) (p.order i j less known) (p.known j known);
    alone = λ one.
        let first : part 0 < bus.senders = p.known 0 p.some in
        elim (cases_eq bus.senders 1) [
          | inl lone ↦
              subst (λ k. bus.delay ≤ bus.sg_short k + bus.tg_short k) (let e : 0 ≡ part 0 = omega arith in e) (room.alone lone)
          | inr more ↦ elim (cases_eq (part 0) 0) [
            | inl is ↦
                let wait : bus.tg_long 1 + 2 * bus.delay < bus.sg_short (part 0) = room.waiting 1 (part 0) (omega arith) first (λ e. omega arith) in omega arith
            | inr other ↦
                let wait : bus.tg_long 0 + 2 * bus.delay < bus.sg_short (part 0) = room.waiting 0 (part 0) (omega arith) first (λ e. omega arith) in omega arith
          ]
        ];
  },
  (λ i known. itself (part i) (p.known i known)),
)

-- ---- places

place_is : (part : ℕ → ℕ) (n k i : ℕ) → place_in part n k ≡ Some i → (i < n) × (part i ≡ k)
place_is part zero k i h = absurd (none-some i h)
place_is part (suc n) k i h = elim (cases_Bool (eqb (part n) k)) [
  | inl yes' ↦
      let e : Some n ≡ Some i = sym (ap (λ b. cond b (Some n) (place_in part n k)) yes') ∙ h in
      let same : n ≡ i = same_Some n i e in
      (omega arith, ap part (sym same) ∙ eqb-true (part n) k yes')
  | inr no' ↦
      let r = place_is part n k i (sym (ap (λ b. cond b (Some n) (place_in part n k)) no') ∙ h) in
      let less : i < n = r.0 in
      (omega arith, r.1)
]

-- a place leads back
place_back : (bus : Bus) (part : ℕ → ℕ) (n : ℕ) → IsPart bus part n → (m : ℕ) → m ≤ n → (i : ℕ) → i < m → place_in part m (part i) ≡ Some i
place_back bus part n p zero low i less = absurd (omega arith)
place_back bus part n p (suc m) low i less = elim (cases_eq m i) [
  | inl same ↦
      subst (λ j. cond (eqb (part j) (part i)) (Some j) (place_in part m (part i)) ≡ Some i) (sym same)
      (ap (λ b. cond b (Some i) (place_in part m (part i))) (eq-eqb (part i) (part i) refl))
  | inr other ↦
      let differ : part m ≡ part i → ⊥ = part_other bus part n m i p (omega arith) (omega arith) other in
      ap (λ b. cond b (Some m) (place_in part m (part i))) (ne_eqb (part m) (part i) differ) ∙ place_back bus part n p m (omega arith) i (omega arith)
]

-- who isn't of the part has no place there
place_none : (part : ℕ → ℕ) (n k i : ℕ) → place_in part n k ≡ None → i < n → k ≡ part i → ⊥
place_none part zero k i h less same = absurd (omega arith)
place_none part (suc n) k i h less same = elim (cases_Bool (eqb (part n) k)) [
  | inl yes' ↦ none-some n (sym h ∙ ap (λ b. cond b (Some n) (place_in part n k)) yes')
  | inr no' ↦ elim (cases_eq i n) [
    | inl is ↦ absurd (true≢false (sym (eq-eqb (part n) k (ap part (sym is) ∙ sym same)) ∙ no'))
    | inr other ↦ place_none part n k i (sym (ap (λ b. cond b (Some n) (place_in part n k)) no') ∙ h) (omega arith) same
  ]
]

module _ (part : ℕ → ℕ) (n : ℕ) where
  -- a transmission as it stands on the bus
  abbrev as_was : Entry → Entry
  as_was x = record x { sender = part x.sender }

  abbrev placed : ℕ → Entry → Entry
  placed i x = record x { sender = i }

  was : (x : Entry) (i : ℕ) → part i ≡ x.sender → as_was (placed i x) ≡ x
  was x i same = ap (λ k. record x { sender = k }) same

  from_placed : (o : Option ℕ) (x : Entry) (l : List Entry) (y : Entry) → In y (placed_before o x l) → ((i : ℕ) × (o ≡ Some i) × (y ≡ placed i x)) ⊎ In y l
  from_placed None x l y j = inr j
  from_placed (Some i) x l y (inl same) = inl (i, refl, same)
  from_placed (Some i) x l y (inr j) = inr j

  in_placed : (o : Option ℕ) (x : Entry) (l : List Entry) (y : Entry) → In y l → In y (placed_before o x l)
  in_placed None x l y j = j
  in_placed (Some i) x l y j = inr j

  from_kept : (o : Option ℕ) (x : Entry) (l : List Entry) (y : Entry) → In y (kept_before o x l) → ((o ≡ None) × (y ≡ x)) ⊎ In y l
  from_kept None x l y (inl same) = inl (refl, same)
  from_kept None x l y (inr j) = inr j
  from_kept (Some i) x l y j = inr j

  -- what is of the part was on the bus
  pub from_part : (l : List Entry) (y : Entry) → In y (of_part part n l) → (y.sender < n) × In (as_was y) l
  from_part [] y j = absurd j
  from_part (x ∷ l) y j = elim (from_placed (place_in part n x.sender) x (of_part part n l) y j) [
    | inr later ↦ (let r = from_part l y later in (r.0, inr r.1))
    | inl p ↦
        let q = place_is part n x.sender p.0 p.1 in
        let at : y.sender ≡ p.0 = ap (λ (z : Entry). z.sender) p.2 in
        let less : p.0 < n = q.0 in
        (omega arith, inl (ap as_was p.2 ∙ was x p.0 q.1))
  ]

  pub from_others : (l : List Entry) (y : Entry) → In y (of_others part n l) → In y l × ((i : ℕ) → i < n → y.sender ≡ part i → ⊥)
  from_others [] y j = absurd j
  from_others (x ∷ l) y j = elim (from_kept (place_in part n x.sender) x (of_others part n l) y j) [
    | inr later ↦ (let r = from_others l y later in (inr r.0, r.1))
    | inl p ↦ (inl p.1, (λ i less same. place_none part n x.sender i p.0 less (ap (λ (z : Entry). z.sender) (sym p.1) ∙ same)))
  ]

  module _ (bus : Bus) (p : IsPart bus part n) where
    -- and what was on the bus is of the part
    pub in_part : (l : List Entry) (x : Entry) (i : ℕ) → i < n → x.sender ≡ part i → In x l → In (placed i x) (of_part part n l)
    in_part [] x i less mine j = absurd j
    in_part (y ∷ l) x i less mine (inr j) = in_placed (place_in part n y.sender) y (of_part part n l) (placed i x) (in_part l x i less mine j)
    in_part (y ∷ l) x i less mine (inl same) =
        let there : place_in part n y.sender ≡ Some i =
        ap (place_in part n) (ap (λ (z : Entry). z.sender) (sym same) ∙ mine) ∙ place_back bus part n p n (omega arith) i less in
        subst (λ o. In (placed i x) (placed_before o y (of_part part n l))) (sym there) (inl (ap (placed i) same))

    own_step : (o : Option ℕ) (x : Entry) (l : List Entry) (i t : ℕ) → i < n → place_in part n x.sender ≡ o
        → length (own (of_part part n l) i t) ≡ length (own l (part i) t)
        → length (own (placed_before o x (of_part part n l)) i t) ≡ length (own (x ∷ l) (part i) t)
    own_step None x l i t less is rest =
        let not : eqb x.sender (part i) ≡ false = ne_eqb x.sender (part i) (place_none part n x.sender i is less) in
        rest ∙ sym (ap (λ b. length (cond (b && ltb x.moment t) (x ∷ own l (part i) t) (own l (part i) t))) not)
    own_step (Some j) x l i t less is rest =
        let q = place_is part n x.sender j is in
        let test : eqb j i ≡ eqb x.sender (part i) = elim (cases_eq j i) [
          | inl same ↦ eq-eqb j i same ∙ sym (eq-eqb x.sender (part i) (sym q.1 ∙ ap part same))
          | inr other ↦
              ne_eqb j i other ∙ sym (ne_eqb x.sender (part i) (λ e. part_other bus part n j i p q.0 less other (q.1 ∙ e)))
        ] in
        count (eqb j i && ltb x.moment t) (placed j x) (own (of_part part n l) i t)
        ∙ ap (λ b. cond (b && ltb x.moment t) (suc (length (own (of_part part n l) i t))) (length (own (of_part part n l) i t))) test
        ∙ ap (λ m. cond (eqb x.sender (part i) && ltb x.moment t) (suc m) m) rest
        ∙ sym (count (eqb x.sender (part i) && ltb x.moment t) x (own l (part i) t))

    -- as many of a sender
    own_part : (l : List Entry) (i t : ℕ) → i < n → length (own (of_part part n l) i t) ≡ length (own l (part i) t)
    own_part [] i t less = refl
    own_part (x ∷ l) i t less =
        let rest : length (own (of_part part n l) i t) ≡ length (own l (part i) t) = own_part l i t less in
        own_step (place_in part n x.sender) x l i t less refl rest

    up_step : (o : Option ℕ) (x : Entry) (l : List Entry) → place_in part n x.sender ≡ o → IsAscending (x ∷ l) → IsAscending (of_part part n l)
        → IsAscending (placed_before o x (of_part part n l))
    up_step None x l is up rest = rest
    up_step (Some j) x l is up rest = (
      (λ y i.
          let q = place_is part n x.sender j is in
          let r = from_part l y i in
          elim (up.0 (as_was y) r.1) [
            | inl less ↦ inl less
            | inr both ↦ inr (both.0, (λ same. both.1 (sym q.1 ∙ ap part same)))
          ]),
      rest,
    )

    part_up : (l : List Entry) → IsAscending l → IsAscending (of_part part n l)
    part_up [] up = tt
    part_up (x ∷ l) up = up_step (place_in part n x.sender) x l refl up (part_up l up.1)

-- ---- hearing

or_true : (a : Bool) → a || true ≡ true
or_true true = refl
or_true false = refl

pub or_into : (a b d : Bool) → (a || b) || d ≡ a || (b || d)
or_into true b d = refl
or_into false b d = refl

pub or_over : (a b d : Bool) → a || (b || d) ≡ b || (a || d)
or_over true true d = refl
or_over true false d = refl
or_over false b d = refl

module _ (bus : Bus) (c : Course) (part : ℕ → ℕ) (n : ℕ) (p : IsPart bus part n) (ok : IsCourse bus c) where
  abbrev d : Course
  d = course_of c part n

  heard_step : (o : Option ℕ) (x : Entry) (l : List Entry) (i t : ℕ) → place_in part n x.sender ≡ o
      → hears_any c.hears l (part i) t ≡ hears_any c.hears (of_others part n l) (part i) t || hears_any d.hears (of_part part n l) i t
      → hears_any c.hears (x ∷ l) (part i) t ≡ hears_any c.hears (kept_before o x (of_others part n l)) (part i) t || hears_any d.hears (placed_before o x (of_part part n l)) i t
  heard_step None x l i t is rest =
      ap (λ b. c.hears x (part i) t || b) rest
      ∙ sym (or_into (c.hears x (part i) t) (hears_any c.hears (of_others part n l) (part i) t) (hears_any d.hears (of_part part n l) i t))
  heard_step (Some j) x l i t is rest =
      let same : d.hears (record x { sender = j }) i t ≡ c.hears x (part i) t =
      ap (λ k. c.hears (record x { sender = k }) (part i) t) (place_is part n x.sender j is).1 in
      ap (λ b. c.hears x (part i) t || b) rest
      ∙ or_over (c.hears x (part i) t) (hears_any c.hears (of_others part n l) (part i) t) (hears_any d.hears (of_part part n l) i t)
      ∙ ap (λ b. hears_any c.hears (of_others part n l) (part i) t || (b || hears_any d.hears (of_part part n l) i t)) (sym same)

  heard_part : (l : List Entry) (i t : ℕ) → hears_any c.hears l (part i) t ≡ hears_any c.hears (of_others part n l) (part i) t || hears_any d.hears (of_part part n l) i t
  heard_part [] i t = refl
  heard_part (x ∷ l) i t = heard_step (place_in part n x.sender) x l i t refl (heard_part l i t)

  carrier_part : (i t : ℕ) → carrier c (part i) t ≡ carrier d i t
  carrier_part i t =
      ap (λ b. c.noise (part i) t || b) (heard_part c.list i t)
      ∙ sym (or_into (c.noise (part i) t) (hears_any c.hears (of_others part n c.list) (part i) t) (hears_any d.hears (of_part part n c.list) i t))

  alike_part : (i t : ℕ) → i < n → Alike c d (part i) i t
  alike_part i t known = record {
    up = refl;
    due = refl;
    tg = λ a. refl;
    sg = λ a. refl;
    ti = λ a. refl;
    heard = λ u less. carrier_part i u;
    there = λ x j mine less. (record x { sender = i }, in_part part n bus p c.list x i known mine j, refl, refl);
    back = λ y j mine less. (record y { sender = part y.sender }, (from_part part n c.list y j).1, ap part mine, refl);
  }

  left_part : (i t : ℕ) → i < n → HasLeft c (part i) t → HasLeft d i t
  left_part i t known h = subst (λ m. IfSome (c.messages (part i)) (λ q. m < q)) (sym (own_part part n bus p c.list i t known)) h

  part_left : (i t : ℕ) → i < n → HasLeft d i t → HasLeft c (part i) t
  part_left i t known h = subst (λ m. IfSome (c.messages (part i)) (λ q. m < q)) (own_part part n bus p c.list i t known) h

  fresh_part : (i a : ℕ) → IsFresh d i a → IsFresh c (part i) a
  fresh_part i a (inl less) = inl less
  fresh_part i a (inr q) = inr (record q.0 { sender = part q.0.sender }, (from_part part n c.list q.0 q.1).1, q.2)

  pub course_part : IsCourse (part_of bus part n) (course_of c part n)
  course_part = record {
    ordered = part_up part n bus p c.list ok.ordered;
    sent = λ y j. (let r = from_part part n c.list y j in let s = ok.sent (record y { sender = part y.sender }) r.1 in (r.0, s.1, s.2, s.3));
    exact = λ i t known soon. (
      (λ h.
          let r = from_part part n c.list h.entry h.there in
          let both = (ok.exact (part i) t (p.known i known) soon).0 (record {
            entry = record h.entry { sender = part h.entry.sender };
            there = r.1;
            sender = ap part h.sender;
            moment = h.moment;
          }) in
          (may_alike c d (part i) i t (alike_part i t known) both.0, left_part i t known both.1)),
      (λ both.
          let h : HasEntry c.list (part i) t = (ok.exact (part i) t (p.known i known) soon).1
          (may_alike d c i (part i) t (alike_back c d (part i) i t (alike_part i t known)) both.0, part_left i t known both.1) in
          record {
            entry = record h.entry { sender = i };
            there = in_part part n bus p c.list h.entry i known h.sender h.there;
            sender = refl;
            moment = h.moment;
          }),
    );
    own = λ y j.
        hears_as c.hears d.hears 0 bus.drop (record y { sender = part y.sender }) y (part y.sender) y.sender refl refl (λ t. refl)
        (ok.own (record y { sender = part y.sender }) (from_part part n c.list y j).1);
    others = λ y m j.
        hears_as c.hears d.hears bus.delay bus.drop (record y { sender = part y.sender }) y (part m) m refl refl (λ t. refl)
        (ok.others (record y { sender = part y.sender }) (part m) (from_part part n c.list y j).1);
    tg_low = λ i a known fresh. ok.tg_low (part i) a (p.known i known) (fresh_part i a fresh);
    tg_high = λ i a known. ok.tg_high (part i) a (p.known i known);
    sg_low = λ i a known fresh. ok.sg_low (part i) a (p.known i known) (fresh_part i a fresh);
    sg_high = λ i a known. ok.sg_high (part i) a (p.known i known);
    ti_low = λ i a known. ok.ti_low (part i) a (p.known i known);
    ti_high = λ i a known. ok.ti_high (part i) a (p.known i known);
  }

  pub still_part : (up : ℕ) → ArePartAlone bus c part n up → (m t : ℕ) → up ≤ t → d.noise m t ≡ false
  still_part up alone m t low =
      or_both (c.noise (part m) t) (hears_any c.hears (of_others part n c.list) (part m) t) (alone.still (part m) t low)
      (quiet_all c.hears (of_others part n c.list) (part m) t (λ x j.
      let r = from_others part n c.list x j in
      let over : end_of x + bus.delay ≤ up = alone.silent x r.0 r.1 in
      unheard c.hears bus.delay bus.drop x (part m) t (ok.others x (part m) r.0) (inr (omega arith))))

pub parts_have_courses : PartsHaveCourses
parts_have_courses bus c part n p ok = course_part bus c part n p ok

pub alive_settle : AliveSettle
alive_settle bus c part n up sg p room itself ok have alone greatest =
    let both = parts_have_room bus part n p room itself in
    any_start_settles (part_of bus part n) (course_of c part n) up sg both.0 both.1 (course_part bus c part n p ok)
    (λ i t known soon. left_part bus c part n p ok i t known (have i t known soon))
    (record { powered = alone.powered; due = alone.due; still = still_part bus c part n p ok up alone }) greatest
