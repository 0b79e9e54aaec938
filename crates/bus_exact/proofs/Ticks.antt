-- What the senders of a table do on a cable, in ticks: who sent each transmission, and what is heard of it.
use Rattle.std.proofs.Common.{◌≡◌, ℕ, ◌+◌, ◌-◌, ◌<◌, ◌≤◌, Bool, true, false, ◌&&◌, ◌||◌, List, [], ◌∷◌, map, length, get_or, Some, inl, inr, arith, sym, refl, ap, ◌∙◌, subst, eqb-true, eq-eqb, leb-true, le-leb}
use Rattle.std.specs.Prelude.{slice_get, nat_eq, nat_le}
use Rattle.std.specs.List.{list_all, list_any}
use Rattle.std.proofs.lemmas.Bool.{cases_lt, cases_Bool, true≢false, and_parts}
use Rattle.bus_timers.specs.Timings.{IsSound}
use Rattle.bus_strings.specs.Members.{In}
use Rattle.bus_strings.proofs.MemberLaws.{in_map, from_map, any_in, none_any}
use Rattle.bus_strings.specs.Messages.{Message, Entry, bits}
use Rattle.bus_strings.specs.Transmissions.{pulses}
use Rattle.bus_table.specs.declared.mode.Mode.TheVariants.{Aperiodic}
use Rattle.bus_table.specs.Tables.{Sender, Table, Hand, sender_numbers}
use Rattle.bus_table.specs.inside.Facts.{SenderFacts, TableFacts}
use Rattle.bus_table.specs.inside.Orders.{Rises, Differ}
use Rattle.bus_table.specs.Fits.{fits}
use Rattle.bus_table.specs.Lengths.{shortest, longest}
use Rattle.bus_table.specs.Turns.{turn_key, turn_order}
use Rattle.bus_table.proofs.TurnLaws.{numbers_differ, order_rises, from_sort, in_sort, of_each}
use Rattle.bus_medium.specs.Past.{own}
use Rattle.bus_medium.proofs.PastLaws.{pulses_begun, pulses_ended, one_at}
use Rattle.bus_medium.specs.BusyLaws.{Heard, IsBusy}
use Rattle.bus_medium.proofs.BusyLaws.{entry_is_busy}
use Rattle.bus_medium.proofs.Hearing.{hears_sender}
use Rattle.bus_medium.specs.Lawful.{Station}
use Rattle.bus_medium.specs.Timings.{timing_of}
use Rattle.bus_medium.specs.Delays.{Delays, AreDelays}
use Rattle.bus_medium.specs.CableLawful.{IsDueOnCable, IsLawfulOnCable}
use Rattle.bus_schedule.specs.Even.{messages_of}
use Rattle.bus_schedule.proofs.HandLemmas.{Sendable, station, stations, message_of}
use Rattle.bus_schedule.proofs.Orders.{same_sender, differ_rises}
use Rattle.bus_clocks.specs.Buses.{Bus}
use Rattle.bus_clocks.specs.Courses.{Course}
use Rattle.bus_clocks.specs.Entries.{Entry as Sending, In as Among}
use Rattle.bus_clocks.specs.Hearing.{Hears}
use Rattle.bus_exact.specs.Exact.{value_at, place_of, bus_of, course_of, sending_of, is_sending, heard_at, sounds}
use Rattle.bus_exact.proofs.Places.{Placed, placed, at_place, value_behind}

-- ---- small facts

pub both : (a b : Bool) → a ≡ true → b ≡ true → a && b ≡ true
both true b h k = k
both false b h k = absurd (true≢false (sym h))

not_both : (a b : Bool) → (a ≡ true → b ≡ false) → a && b ≡ false
not_both true b h = h refl
not_both false b h = refl

or_none : (a : Bool) → a || false ≡ true → a ≡ true
or_none true h = refl
or_none false h = h

-- an aperiodic table with its hands, and the lawful list on a cable
pub record Case : Type 0 where
  pub table : Table
  pub hands : List Hand
  pub wake : ℕ → ℕ
  pub delay : Delays
  pub d : ℕ
  pub end : ℕ
  pub list : List Entry
  pub mode : table.mode ≡ Aperiodic
  pub facts : TableFacts table
  pub sound : (b : Sender) → In b table.senders → IsSound (timing_of table b)
  pub fit : (b : Sender) → In b table.senders → list_all (fits b) (messages_of hands b.number) ≡ true
  pub delays : AreDelays d (sender_numbers table) delay
  pub law : IsLawfulOnCable table.sg delay wake (stations table (messages_of hands)) end list

module _ (s : Case) where
  abbrev pub order : List Sender
  order = turn_order s.table

  abbrev pub bus : Bus
  bus = bus_of s.table s.d

  abbrev pub course : Course
  course = course_of s.table s.hands s.delay s.wake s.end s.list

  abbrev pub tick : Entry → Sending
  tick x = sending_of s.table x

  abbrev pub hearing : Sending → ℕ → ℕ → Bool
  hearing y k u = list_any (λ x. is_sending s.table y x && sounds s.table s.delay k u x) s.list

  pub of_table : (b : Sender) → In b order → In b s.table.senders
  of_table b i = from_sort (turn_key s.table.mode) s.table.senders b i

  pub in_order : (b : Sender) → In b s.table.senders → In b order
  in_order b i = in_sort (turn_key s.table.mode) s.table.senders b i

  pub rises : Rises (λ b. b.tg) order
  rises = subst (λ m. Rises (turn_key m) (turn_order s.table)) s.mode (order_rises s.table s.facts)

  pub differ : Differ (λ b. b.number) order
  differ = differ_rises (λ b. b.tg) order rises (λ b c i j e. same_sender (λ a. a.number) s.table.senders b c (numbers_differ s.table s.facts) (of_table b i) (of_table c j) e)

  pub at : (k : ℕ) → k < length order → (b : Sender) × Placed order b k
  at k known = at_place order differ k known

  pub facts_of : (b : Sender) → In b order → SenderFacts s.table b
  facts_of b i = of_each (SenderFacts s.table) s.table.senders s.facts.senders b (of_table b i)

  pub to_among : (l : List Entry) (x : Entry) → In x l → Among (tick x) (map tick l)
  to_among [] x i = i
  to_among (y ∷ l) x (inl same) = inl (ap tick same)
  to_among (y ∷ l) x (inr i) = inr (to_among l x i)

  pub from_among : (l : List Entry) (y : Sending) → Among y (map tick l) → (x : Entry) × In x l × (y ≡ tick x)
  from_among [] y i = absurd i
  from_among (x ∷ l) y (inl same) = (x, inl refl, same)
  from_among (x ∷ l) y (inr i) = let r = from_among l y i in (r.0, inr r.1, r.2)

  -- who sent a transmission
  pub record Sent (x : Entry) : Type 0 where
    pub by : Sender
    pub there : In by order
    pub number_is : x.terminal ≡ by.number
    pub at_is : Placed order by (place_of order x.terminal)
    pub soon : x.moment < s.end
    pub due : IsDueOnCable s.table.sg s.delay s.wake s.list (station s.table (messages_of s.hands) by) x.moment
    pub some : 0 < length x.message
    pub bit : 0 < bits x.message
    pub least : shortest by ≤ bits x.message
    pub most : bits x.message ≤ longest by

  some_same : (a b : Message) → Some a ≡ Some b → a ≡ b
  some_same a b h = cc

  pub sent : (x : Entry) → In x s.list → Sent x
  sent x i =
      let l = s.law.sent x i in
      let f = from_map (station s.table (messages_of s.hands)) s.table.senders l.1.sender l.1.there in
      let number_is : x.terminal ≡ f.0.number = sym l.1.number ∙ sym (ap (λ (z : Station). z.number) f.2) in
      let slice : slice_get (messages_of s.hands f.0.number) (length (own s.list f.0.number x.moment)) ≡ Some x.message =
      ap (λ (z : Station). slice_get z.hand (length (own s.list z.number x.moment))) f.2 ∙ l.1.message in
      let due : IsDueOnCable s.table.sg s.delay s.wake s.list (station s.table (messages_of s.hands) f.0) x.moment =
      (s.law.exact x.moment (station s.table (messages_of s.hands) f.0) l.0 (in_map (station s.table (messages_of s.hands)) s.table.senders f.0 f.1)).0
      (record { entry = x; there = i; moment = refl; terminal = number_is }) in
      let m : Sendable f.0 (messages_of s.hands f.0.number) (length (own s.list f.0.number x.moment)) (get_or (messages_of s.hands f.0.number) (length (own s.list f.0.number x.moment)) []) =
      message_of s.table (messages_of s.hands) f.0 (length (own s.list f.0.number x.moment)) s.facts f.1 (s.fit f.0 f.1) due.left in
      let same : get_or (messages_of s.hands f.0.number) (length (own s.list f.0.number x.moment)) [] ≡ x.message =
      some_same (get_or (messages_of s.hands f.0.number) (length (own s.list f.0.number x.moment)) []) x.message (sym m.sent ∙ slice) in
      record {
        by = f.0;
        there = in_order f.0 f.1;
        number_is = number_is;
        at_is = subst (λ n. Placed order f.0 (place_of order n)) (sym number_is) (placed order differ f.0 (in_order f.0 f.1));
        soon = l.0;
        due = due;
        some = subst (λ (z : Message). 0 < length z) same m.some;
        bit = subst (λ (z : Message). 0 < bits z) same m.some_bits;
        least = subst (λ (z : Message). shortest f.0 ≤ bits z) same m.least;
        most = subst (λ (z : Message). bits z ≤ longest f.0) same m.most;
      }

  abbrev pub number : ℕ → ℕ
  number k = value_at (λ b. b.number) order k

  -- its place tells its number
  pub number_of : (x : Entry) → In x s.list → number (place_of order x.terminal) ≡ x.terminal
  number_of x i = (sent x i).at_is.has (λ b. b.number) ∙ sym (sent x i).number_is

  -- ---- what is heard

  abbrev pub late : ℕ → Entry → ℕ
  late k x = value_at (λ b. s.delay x b.number) order k

  pub late_most : (x : Entry) → In x s.list → (k : ℕ) → late k x ≤ s.d
  late_most x i k = elim (cases_lt k (length order)) [
    | inl known ↦
        let p = at k known in
        let is : late k x ≡ s.delay x p.0.number = p.1.has (λ b. s.delay x b.number) in
        let far : s.delay x p.0.number ≤ s.d =
        hears_sender s.d s.table s.delay s.delays x (sent x i).by p.0 (of_table (sent x i).by (sent x i).there) (of_table p.0 p.1.there) (sent x i).number_is in
        omega arith
    | inr behind ↦ (let none : late k x ≡ 0 = value_behind (λ b. s.delay x b.number) order k behind in omega arith)
  ]

  pub late_own : (x : Entry) → In x s.list → late (place_of order x.terminal) x ≡ 0
  late_own x i = (sent x i).at_is.has (λ b. s.delay x b.number) ∙ ap (s.delay x) (sym (sent x i).number_is) ∙ s.delays.own x

  only : (x y : Entry) → In x s.list → In y s.list → is_sending s.table (tick x) y ≡ true → x ≡ y
  only x y i j h =
      let p = and_parts (nat_eq (s.table.sg + x.moment) (s.table.sg + y.moment)) (nat_eq (place_of order x.terminal) (place_of order y.terminal)) h in
      let moment : s.table.sg + x.moment ≡ s.table.sg + y.moment = eqb-true (s.table.sg + x.moment) (s.table.sg + y.moment) p.0 in
      let places : place_of order x.terminal ≡ place_of order y.terminal = eqb-true (place_of order x.terminal) (place_of order y.terminal) p.1 in
      one_at s.list x y s.law.ordered i j (omega arith) (sym (number_of x i) ∙ ap number places ∙ number_of y j)

  pub hears_is : (x : Entry) → In x s.list → (k u : ℕ) → hearing (tick x) k u ≡ sounds s.table s.delay k u x
  hears_is x i k u =
      let me : is_sending s.table (tick x) x ≡ true =
      both (nat_eq (s.table.sg + x.moment) (s.table.sg + x.moment)) (nat_eq (place_of order x.terminal) (place_of order x.terminal)) (eq-eqb (s.table.sg + x.moment) (s.table.sg + x.moment) refl)
      (eq-eqb (place_of order x.terminal) (place_of order x.terminal) refl) in
      elim (cases_Bool (sounds s.table s.delay k u x)) [
        | inl on ↦ any_in (λ z. is_sending s.table (tick x) z && sounds s.table s.delay k u z) s.list x i (both (is_sending s.table (tick x) x) (sounds s.table s.delay k u x) me on) ∙ sym on
        | inr off ↦ none_any (λ z. is_sending s.table (tick x) z && sounds s.table s.delay k u z) s.list
            (λ z j. not_both (is_sending s.table (tick x) z) (sounds s.table s.delay k u z) (λ h. ap (sounds s.table s.delay k u) (sym (only x z i j h)) ∙ off)) ∙ sym off
      ]

  on_at : (x : Entry) → In x s.list → (k t : ℕ) → pulses t (heard_at s.table s.delay k x) ≡ true → hearing (tick x) k (s.table.sg + t) ≡ true
  on_at x i k t on =
      let e : s.table.sg + t - s.table.sg ≡ t = omega arith in
      hears_is x i k (s.table.sg + t)
      ∙ both (nat_le s.table.sg (s.table.sg + t)) (pulses (s.table.sg + t - s.table.sg) (heard_at s.table s.delay k x)) (le-leb s.table.sg (s.table.sg + t) (omega arith))
      (ap (λ v. pulses v (heard_at s.table s.delay k x)) e ∙ on)

  pub hears_well : (x : Entry) → In x s.list → (k m : ℕ) → late k x ≤ m → Hears hearing m 5 (tick x) k
  hears_well x i k m within =
      let z : Entry = heard_at s.table s.delay k x in
      let busy : IsBusy (heard_at s.table s.delay k x ∷ []) (x.moment + late k x) (x.moment + late k x + bits x.message) = entry_is_busy (heard_at s.table s.delay k x ∷ []) (heard_at s.table s.delay k x) (inl refl) (sent x i).some in
      let bit : 0 < bits x.message = (sent x i).bit in
      record {
        within = λ u h.
            let p = and_parts (nat_le s.table.sg u) (pulses (u - s.table.sg) (heard_at s.table s.delay k x)) (sym (hears_is x i k u) ∙ h) in
            let low : s.table.sg ≤ u = leb-true s.table.sg u p.0 in
            let begun : x.moment + late k x ≤ u - s.table.sg = pulses_begun (u - s.table.sg) (heard_at s.table s.delay k x) p.1 in
            let ended : u - s.table.sg < x.moment + late k x + bits x.message = elim (cases_lt (u - s.table.sg) (x.moment + late k x + bits x.message)) [
              | inl fine ↦ fine
              | inr over ↦ absurd (true≢false (sym p.1 ∙ pulses_ended (u - s.table.sg) (heard_at s.table s.delay k x) over))
            ] in
            (omega arith, omega arith);
        first = s.table.sg + (x.moment + late k x);
        last = s.table.sg + (x.moment + late k x + bits x.message - 1);
        first_heard = on_at x i k (x.moment + late k x) (or_none (pulses (x.moment + late k x) (heard_at s.table s.delay k x)) busy.first);
        first_soon = omega arith;
        last_heard = on_at x i k (x.moment + late k x + bits x.message - 1) (or_none (pulses (x.moment + late k x + bits x.message - 1) (heard_at s.table s.delay k x)) busy.final);
        last_late = omega arith;
        filled = λ u low high. elim (cases_lt (u - s.table.sg + 4) (x.moment + late k x + bits x.message)) [
          | inl inside ↦
              let h : Heard (heard_at s.table s.delay k x ∷ []) (u - s.table.sg) = busy.soon (u - s.table.sg) (omega arith) inside in
              let h_low : u - s.table.sg ≤ h.at = h.low in
              let h_high : h.at ≤ u - s.table.sg + 4 = h.high in
              (s.table.sg + h.at, omega arith, omega arith, on_at x i k h.at (or_none (pulses h.at (heard_at s.table s.delay k x)) h.on))
          | inr near ↦ (
            s.table.sg + (x.moment + late k x + bits x.message - 1),
            omega arith,
            omega arith,
            on_at x i k (x.moment + late k x + bits x.message - 1) (or_none (pulses (x.moment + late k x + bits x.message - 1) (heard_at s.table s.delay k x)) busy.final),
          )
        ];
      }
