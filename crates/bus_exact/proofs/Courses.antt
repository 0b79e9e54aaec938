-- The lawful list on a cable is a course, and begins cold.
use Rattle.std.proofs.Common.{◌≡◌, ℕ, ◌+◌, ◌-◌, ◌<◌, ◌≤◌, Bool, true, false, cond, List, [], ◌∷◌, map, length, Option, Some, None, inl, inr, arith, sym, refl, ap, ◌∙◌, subst}
use Rattle.std.specs.Prelude.{nat_eq, nat_lt, ◌&&◌}
use Rattle.std.specs.List.{AllByRecursion, filter}
use Rattle.bus_timers.specs.MayStart.{MayStart as Allows}
use Rattle.bus_strings.specs.Members.{In}
use Rattle.bus_strings.proofs.MemberLaws.{in_map}
use Rattle.bus_strings.specs.Messages.{Entry, bits}
use Rattle.bus_strings.specs.Transmissions.{Precedes, IsOrdered}
use Rattle.bus_table.specs.Tables.{Sender}
use Rattle.bus_table.specs.Lengths.{shortest, longest}
use Rattle.bus_table.proofs.TurnLaws.{numbers_differ}
use Rattle.bus_table.proofs.ValidLaws.{valid_facts}
use Rattle.bus_medium.specs.Past.{own}
use Rattle.bus_medium.proofs.AscendingLaws.{behind_in}
use Rattle.bus_medium.proofs.StationLaws.{timings_are_sound}
use Rattle.bus_medium.specs.Timings.{timing_of, due_for, quiet_of}
use Rattle.bus_medium.specs.Wakes.{woken_place}
use Rattle.bus_medium.specs.CableLawful.{IsDueOnCable, IsLawfulOnCable}
use Rattle.bus_schedule.specs.Even.{messages_of}
use Rattle.bus_schedule.proofs.HandLemmas.{own_fit, station, stations, quiet_is}
use Rattle.bus_schedule.proofs.LiveLemmas.{stations_of_dealt}
use Rattle.bus_clocks.specs.Courses.{HasEntry, HasLeft, IsCourse, MayStart}
use Rattle.bus_clocks.specs.Entries.{Entry as Sending, IsBefore, IsAscending as AreAscending, own as own_sent}
use Rattle.bus_clocks.specs.Hearing.{Hears}
use Rattle.bus_clocks.specs.Order.{IsCold}
use Rattle.bus_clocks.specs.Windows.{past as told_until, IsLast, timing, IsTimed}
use Rattle.bus_clocks.proofs.Bridge.{IsBounded, allowed, demanded, bits_length}
use Rattle.bus_exact.specs.Exact.{value_at, place_of, LawfulIsCourse}
use Rattle.bus_exact.proofs.Places.{Placed}
use Rattle.bus_exact.proofs.Ticks.{Case, order, of_table, bus, at, tick, hearing, course, late, late_own, late_most, Sent, sent, number, number_of, hears_well, to_among, from_among}
use Rattle.bus_exact.proofs.Pasts.{past_is, last_in, at_place, count_is}
use Rattle.std.specs.Prelude.{IsTrue}
use Rattle.bus_table.specs.declared.mode.Mode.TheVariants.{Aperiodic}
use Rattle.bus_table.specs.Hands.{are_hands}
use Rattle.bus_table.specs.Tables.{Hand, Table, sender_numbers}
use Rattle.bus_table.specs.Valid.{is_valid}
use Rattle.bus_medium.specs.Delays.{Delays, AreDelays}
use Rattle.bus_medium.specs.Timings.{stations_of}
use Rattle.bus_medium.specs.Wakes.{Wakes}

all_filter : (P : Entry → Type 0) (p : Entry → Bool) (xs : List Entry) → AllByRecursion P xs → AllByRecursion P (filter p xs)
all_filter P p [] a = tt
all_filter P p (x ∷ xs) a = elim (p x) as (λ b. AllByRecursion P (cond b (x ∷ filter p xs) (filter p xs))) [
  | true ↦ (a.0, all_filter P p xs a.1)
  | false ↦ all_filter P p xs a.1
]

pub ordered_filter : (R : Entry → Entry → Type 0) (p : Entry → Bool) (xs : List Entry) → IsOrdered R xs → IsOrdered R (filter p xs)
ordered_filter R p [] o = tt
ordered_filter R p (x ∷ xs) o = elim (p x) as (λ b. IsOrdered R (cond b (x ∷ filter p xs) (filter p xs))) [
  | true ↦ (all_filter (R x) p xs o.0, ordered_filter R p xs o.1)
  | false ↦ ordered_filter R p xs o.1
]

module _ (s : Case) where
  -- the rule of the table and that of exact timers from a power-up differ in what they say before a first start alone
  ready : (b : Sender) (past : List Bool) (last : Option ℕ) → Allows (timing_of s.table b) past last → Allows (timing s.table.ti s.table.sg b.tg) past last
  ready b past None a = record { interval = omega arith; synchronized = a.synchronized; gap_fits = a.gap_fits; gap = a.gap }
  ready b past (Some n) a = record { interval = a.interval; synchronized = a.synchronized; gap_fits = a.gap_fits; gap = a.gap }

  unready : (b : Sender) (past : List Bool) (last : Option ℕ) → (timing_of s.table b).quiet + (timing_of s.table b).due ≡ s.table.sg
      → Allows (timing s.table.ti s.table.sg b.tg) past last → Allows (timing_of s.table b) past last
  unready b past None is a =
      let e = a.synchronized in
      let long : s.table.sg ≤ e.0 = e.2.long in
      let fits : e.0 + b.tg ≤ length past = e.1 in
      record { interval = omega arith; synchronized = a.synchronized; gap_fits = a.gap_fits; gap = a.gap }
  unready b past (Some n) is a = record { interval = a.interval; synchronized = a.synchronized; gap_fits = a.gap_fits; gap = a.gap }

  bounded : IsBounded (bus s) (course s)
  bounded = record {
    own = λ y i.
        let r = from_among s s.list y i in
        subst (λ (z : Sending). Hears (hearing s) 0 5 z z.sender) (sym r.2)
        (hears_well s r.0 r.1 (place_of (order s) r.0.terminal) 0 (let e : late s (place_of (order s) r.0.terminal) r.0 ≡ 0 = late_own s r.0 r.1 in omega arith));
    tg_high = λ k a known. omega arith;
    sg_high = λ k a known. omega arith;
    ti_high = λ k a known. omega arith;
  }

  timed : (k : ℕ) → IsTimed (course s) k s.table.ti s.table.sg (value_at (λ b. b.tg) (order s) k)
  timed k = record { ti_low = λ a. omega arith; sg_low = λ a. omega arith; tg_low = λ a. omega arith }

  due_zero : (b : Sender) → (timing_of s.table b).quiet + (timing_of s.table b).due ≡ s.table.sg
  due_zero b =
      let one : (timing_of s.table b).quiet ≡ s.table.sg = quiet_is s.table s.mode in
      let two : (timing_of s.table b).due ≡ 0 = ap (λ m. due_for m b) s.mode in
      omega arith

  module _ (k : ℕ) (b : Sender) (p : Placed (order s) b k) where
    -- where it started last
    abbrev last : ℕ → Option ℕ
    last t = woken_place s.table.sg (s.wake b.number) (own s.list b.number t)

    last_at : (t : ℕ) → IsLast (course s) k (s.table.sg + t) (last t)
    last_at t = last_in s k b p t (own s.list b.number t) refl (ordered_filter Precedes (λ x. nat_eq x.terminal b.number && nat_lt x.moment t) s.list s.law.ordered)

    pub messages_is : value_at (λ c. length (messages_of s.hands c.number)) (order s) k ≡ length (messages_of s.hands b.number)
    messages_is = p.has (λ c. length (messages_of s.hands c.number))

    pub to_left : (u : ℕ) → length (own s.list b.number (u - s.table.sg)) < length (messages_of s.hands b.number) → HasLeft (course s) k u
    to_left u left =
        let count : length (own_sent (course s).list k u) ≡ length (own s.list b.number (u - s.table.sg)) = count_is s k b p u in
        let is : value_at (λ c. length (messages_of s.hands c.number)) (order s) k ≡ length (messages_of s.hands b.number) = messages_is in
        (let r : length (own_sent (course s).list k u) < value_at (λ c. length (messages_of s.hands c.number)) (order s) k = omega arith in r)

    from_left : (u : ℕ) → HasLeft (course s) k u → length (own s.list b.number (u - s.table.sg)) < length (messages_of s.hands b.number)
    from_left u left =
        let r : length (own_sent (course s).list k u) < value_at (λ c. length (messages_of s.hands c.number)) (order s) k = left in
        let count : length (own_sent (course s).list k u) ≡ length (own s.list b.number (u - s.table.sg)) = count_is s k b p u in
        let is : value_at (λ c. length (messages_of s.hands c.number)) (order s) k ≡ length (messages_of s.hands b.number) = messages_is in
        omega arith

    -- a start that is due, as one that may be
    to_may : (t : ℕ) → IsDueOnCable s.table.sg s.delay s.wake s.list (station s.table (messages_of s.hands) b) t → MayStart (course s) k (s.table.sg + t)
    to_may t due =
        let two : Allows (timing_of s.table b) (told_until (course s) k (s.table.sg + t)) (last t) =
        subst (λ l. Allows (timing_of s.table b) l (last t)) (past_is s k b p t) due.may in
        let three : Allows (timing s.table.ti s.table.sg b.tg) (told_until (course s) k (s.table.sg + t)) (last t) =
        ready b (told_until (course s) k (s.table.sg + t)) (last t) two in
        let long : length (told_until (course s) k (s.table.sg + t)) ≡ s.table.sg + t - (course s).up k = bits_length (course s) k (s.table.sg + t - (course s).up k) in
        let fit : b.tg ≤ length (told_until (course s) k (s.table.sg + t)) = three.gap_fits in
        let tg : 8 ≤ b.tg = (s.sound b (of_table s b p.there)).tg_least in
        let sg : 9 ≤ s.table.sg = s.facts.sg_least in
        demanded (bus s) (course s) bounded k (s.table.sg + t) p.known (omega arith) (omega arith) (omega arith) (last t) (last_at t)
        (subst (λ g. Allows (timing s.table.ti s.table.sg g) (told_until (course s) k (s.table.sg + t)) (last t)) (sym (p.has (λ c. c.tg))) three)

    from_may : (t : ℕ) → MayStart (course s) k (s.table.sg + t) → length (own s.list b.number t) < length (messages_of s.hands b.number)
        → IsDueOnCable s.table.sg s.delay s.wake s.list (station s.table (messages_of s.hands) b) t
    from_may t m left =
        let zero_a : Allows (timing s.table.ti s.table.sg (value_at (λ c. c.tg) (order s) k)) (told_until (course s) k (s.table.sg + t)) (last t) =
        allowed (bus s) (course s) bounded k (s.table.sg + t) m s.table.ti s.table.sg (value_at (λ c. c.tg) (order s) k) (timed k) (last t) (last_at t) in
        let one : Allows (timing s.table.ti s.table.sg b.tg) (told_until (course s) k (s.table.sg + t)) (last t) =
        subst (λ g. Allows (timing s.table.ti s.table.sg g) (told_until (course s) k (s.table.sg + t)) (last t)) (p.has (λ c. c.tg)) zero_a in
        let two : Allows (timing_of s.table b) (told_until (course s) k (s.table.sg + t)) (last t) =
        unready b (told_until (course s) k (s.table.sg + t)) (last t) (due_zero b) one in
        record {
          may = subst (λ l. Allows (timing_of s.table b) l (last t)) (sym (past_is s k b p t)) two;
          left = left;
        }

  ascends : (l : List Entry) → ((x : Entry) → In x l → In x s.list) → IsOrdered Precedes l → AreAscending (map (tick s) l)
  ascends [] sub o = tt
  ascends (x ∷ l) sub o = (
    (λ y i.
        let r = from_among s l y i in
        subst (λ (z : Sending). IsBefore (tick s x) z) (sym r.2) (elim (behind_in x l r.0 o.0 r.1) [
          | inl less ↦ inl (omega arith)
          | inr same ↦ inr (
            (let e : x.moment ≡ r.0.moment = same.0 in omega arith),
            (λ places.
                let less : x.terminal < r.0.terminal = same.1 in
                let e : x.terminal ≡ r.0.terminal = sym (number_of s x (sub x (inl refl))) ∙ ap (number s) places ∙ number_of s r.0 (sub r.0 (inr r.1)) in
                omega arith),
          )
        ])),
    ascends l (λ y i. sub y (inr i)) o.1,
  )

  -- a start, and that it may be
  started : (k u : ℕ) → HasEntry (course s).list k u → MayStart (course s) k u × HasLeft (course s) k u
  started k u h =
      let r = from_among s s.list h.entry h.there in
      let f : Sent s r.0 = sent s r.0 r.1 in
      let at_k : place_of (order s) r.0.terminal ≡ k = ap (λ (z : Sending). z.sender) (sym r.2) ∙ h.sender in
      let at_u : s.table.sg + r.0.moment ≡ u = ap (λ (z : Sending). z.moment) (sym r.2) ∙ h.moment in
      let e : r.0.moment ≡ u - s.table.sg = omega arith in
      let p : Placed (order s) f.by k = subst (Placed (order s) f.by) at_k f.at_is in (
        subst (MayStart (course s) k) at_u (to_may k f.by p r.0.moment f.due),
        to_left k f.by p u (subst (λ t. length (own s.list f.by.number t) < length (messages_of s.hands f.by.number)) e f.due.left),
      )

  starts : (k u : ℕ) → k < length (order s) → u < s.table.sg + s.end → MayStart (course s) k u × HasLeft (course s) k u → HasEntry (course s).list k u
  starts k u known less h =
      let m : MayStart (course s) k u = h.0 in
      let p = at s k known in
      let is : m.synced.from + s.table.sg ≡ m.sync = m.synced.elapsed in
      let low : m.sync ≤ m.from = elim m.begins [ inl same ↦ omega arith | inr q ↦ omega arith ] in
      let terminal : m.from + value_at (λ c. c.tg) (order s) k ≤ u = m.terminal in
      let e : s.table.sg + (u - s.table.sg) ≡ u = omega arith in
      let soon : u - s.table.sg < s.end = omega arith in
      let due : IsDueOnCable s.table.sg s.delay s.wake s.list (station s.table (messages_of s.hands) p.0) (u - s.table.sg) =
      from_may k p.0 p.1 (u - s.table.sg) (subst (MayStart (course s) k) (sym e) m) (from_left k p.0 p.1 u h.1) in
      let h = (s.law.exact (u - s.table.sg) (station s.table (messages_of s.hands) p.0) soon (in_map (station s.table (messages_of s.hands)) s.table.senders p.0 (of_table s p.0 p.1.there))).1 due in
      let at : h.entry.moment ≡ u - s.table.sg = h.moment in
      let its : h.entry.terminal ≡ p.0.number = h.terminal in
      record { entry = tick s h.entry; there = to_among s s.list h.entry h.there; sender = at_place s k p.0 p.1 h.entry its; moment = omega arith }

  pub is_course : IsCourse (bus s) (course s)
  is_course = record {
    ordered = ascends s.list (λ x i. i) s.law.ordered;
    sent = λ y i.
        let r = from_among s s.list y i in
        let f : Sent s r.0 = sent s r.0 r.1 in
        let soon : r.0.moment < s.end = f.soon in
        let least : shortest f.by ≤ bits r.0.message = f.least in
        let most : bits r.0.message ≤ longest f.by = f.most in
        let one : value_at shortest (order s) (place_of (order s) r.0.terminal) ≡ shortest f.by = f.at_is.has shortest in
        let two : value_at longest (order s) (place_of (order s) r.0.terminal) ≡ longest f.by = f.at_is.has longest in
        subst (λ (z : Sending). (z.sender < length (order s)) × (z.moment < s.table.sg + s.end) × (value_at shortest (order s) z.sender ≤ z.length) × (z.length ≤ value_at longest (order s) z.sender)) (sym r.2)
        (f.at_is.known, omega arith, omega arith, omega arith);
    exact = λ k u known less. (started k u, starts k u known less);
    own = bounded.own;
    others = λ y n i.
        let r = from_among s s.list y i in
        subst (λ (z : Sending). Hears (hearing s) s.d 5 z n) (sym r.2) (hears_well s r.0 r.1 n s.d (late_most s r.0 r.1 n));
    tg_low = λ k a known fresh. omega arith;
    tg_high = λ k a known. omega arith;
    sg_low = λ k a known fresh. omega arith;
    sg_high = λ k a known. omega arith;
    ti_low = λ k a known. omega arith;
    ti_high = λ k a known. omega arith;
  }

  pub is_cold : IsCold (bus s) (course s)
  is_cold = record {
    due = λ k known. omega arith;
    still = λ n t. refl;
    tg = λ k a known. omega arith;
    sg = λ k a known. omega arith;
  }

-- what is given, as a case
abbrev pub case_of : (table : Table) (hands : List Hand) (delay : Delays) (wake : Wakes) (d horizon : ℕ) (list : List Entry) → IsTrue (is_valid table)
    → table.mode ≡ Aperiodic → IsTrue (are_hands table.senders hands) → AreDelays d (sender_numbers table) delay
    → IsLawfulOnCable (quiet_of table) delay wake (stations_of table hands) horizon list → Case
case_of table hands delay wake d horizon list valid mode dealt delays law = record {
  table = table;
  hands = hands;
  wake = wake;
  delay = delay;
  d = d;
  end = horizon;
  list = list;
  mode = mode;
  facts = valid_facts table valid;
  sound = λ b i. timings_are_sound table b valid i;
  fit = own_fit table.senders hands dealt (numbers_differ table (valid_facts table valid));
  delays = delays;
  law = subst (λ q. IsLawfulOnCable q delay wake (stations table (messages_of hands)) horizon list) (quiet_is table mode)
      (subst (λ l. IsLawfulOnCable (quiet_of table) delay wake l horizon list) (stations_of_dealt table hands valid dealt) law);
}

pub lawful_is_course : LawfulIsCourse
lawful_is_course table hands delay wake d horizon list valid mode dealt delays law =
    let s : Case = case_of table hands delay wake d horizon list valid mode dealt delays law in
    record { course = is_course s; cold = is_cold s }
