-- On a cable that an accepted aperiodic table bears, the closed schedule of even hands is the run.
use Rattle.std.proofs.Common.{◌≡◌, ℕ, suc, ◌+◌, ◌*◌, ◌/◌, ◌%◌, ◌<◌, ◌≤◌, Bool, true, cond, List, [], ◌∷◌, ◌++◌, zero, length, get_or, inl, inr, arith, sym, refl, ap, ◌∙◌, subst}
use Rattle.std.specs.Prelude.{slice_get, ◌==◌, if◌then◌else◌}
use Rattle.std.specs.List.{filter, list_any}
use Rattle.std.proofs.lemmas.Bool.{eq-eqb, le-leb}
use Rattle.std.proofs.lemmas.Nat.{div-add-mod'}
use Rattle.bus_strings.specs.Members.{In}
use Rattle.bus_strings.proofs.MemberLaws.{any_in}
use Rattle.bus_strings.specs.Messages.{Message, Entry}
use Rattle.bus_table.specs.declared.mode.Mode.TheVariants.{Aperiodic}
use Rattle.bus_table.specs.Tables.{Sender, Table, Hand}
use Rattle.bus_table.specs.Lengths.{shortest, longest}
use Rattle.bus_table.specs.Turns.{turn_key, turn_order}
use Rattle.bus_table.proofs.TurnLaws.{at_in, from_sort, length-sort}
use Rattle.bus_regime.specs.Verdicts.{least_cycle}
use Rattle.bus_regime.proofs.VerdictLaws.{accepted_cycle, aperiodic_numbers}
use Rattle.bus_schedule.specs.Even.{messages_of, rounds}
use Rattle.bus_schedule.specs.Closed.{sends}
use Rattle.bus_schedule.specs.Live.{shortest_cycle}
use Rattle.bus_schedule.specs.Runs.{IsInTurns}
use Rattle.bus_medium.specs.Delays.{Delays, heard_end}
use Rattle.bus_reach.specs.Joining.{grow_turns, grow_heard, hears_awake, members, Growth, grown, founders, growing, IsFirstAwake}
use Rattle.bus_reach.specs.Laws.{BorneIsClosed, IsJoinedRun}
use Rattle.bus_reach.specs.Runs.{IsSpacedWithin, cycle_delay}
use Rattle.bus_reach.specs.Schedule.{cable_turns, cable_heard, cable_origin, cable_rounds, cable_closed}
use Rattle.bus_reach.proofs.SpreadLemmas.{HasSpread, spread_of}
use Rattle.bus_schedule.proofs.Growing.{Setting, sendable}
use Rattle.bus_schedule.proofs.RunLemmas.{setting_of}
use Rattle.bus_schedule.proofs.HandLemmas.{Sendable}
use Rattle.bus_reach.proofs.JoinLemmas.{joining_is_orderly}
use Rattle.bus_schedule.proofs.Places.{more_turns, length-in_rounds, in_rounds_at, in_rounds_get}
use Rattle.bus_schedule.proofs.Spacing.{cycle, cycle_sum, cycle_sort}
use Rattle.bus_reach.proofs.Modes.{in_aperiodic}
use Rattle.bus_reach.proofs.Wandering.{IsNear, turns_are_round, turns_apart}

module _ (table : Table) (hands : List Hand) (delay : Delays) (wake : ℕ → ℕ) (setting : Setting table (messages_of hands) (rounds hands)) where
  of_table : (sender : Sender) → In sender (turn_order table) → In sender table.senders
  of_table sender i = from_sort (turn_key table.mode) table.senders sender i

  as_many : length (turn_order table) ≡ length table.senders
  as_many = length-sort (turn_key table.mode) table.senders

  message : (sender : Sender) (round : ℕ) → In sender (turn_order table) → round < rounds hands → Sendable sender (messages_of hands sender.number) round (get_or (messages_of hands sender.number) round [])
  message sender round i less = sendable table (messages_of hands) (rounds hands) setting sender round (of_table sender i) less

  round_at : ℕ → List Entry
  round_at r = cable_turns delay (messages_of hands) r (turn_order table) (cable_origin delay wake (messages_of hands) table.sg (turn_order table) r)

  long_round : (r : ℕ) → length (cable_turns delay (messages_of hands) r (turn_order table) (cable_origin delay wake (messages_of hands) table.sg (turn_order table) r)) ≡ length (turn_order table)
  long_round r = (turns_are_round delay (messages_of hands) r (turn_order table) (cable_origin delay wake (messages_of hands) table.sg (turn_order table) r)).whole

  in_turns : IsInTurns table hands (cable_closed delay wake table hands)
  in_turns = record {
    whole = length-in_rounds (length (turn_order table)) (λ r. cable_turns delay (messages_of hands) r (turn_order table) (cable_origin delay wake (messages_of hands) table.sg (turn_order table) r)) long_round (rounds hands)
        ∙ ap (λ m. rounds hands * m) as_many;
    turn = λ round turn sender less at.
        let t = (turns_are_round delay (messages_of hands) round (turn_order table) (cable_origin delay wake (messages_of hands) table.sg (turn_order table) round)).turn turn sender at in
        record {
          entry = sends (messages_of hands) round sender t.0;
          at = ap (λ m. slice_get (cable_closed delay wake table hands) (round * m + turn)) (sym as_many)
              ∙ in_rounds_at (length (turn_order table)) (λ r. cable_turns delay (messages_of hands) r (turn_order table) (cable_origin delay wake (messages_of hands) table.sg (turn_order table) r)) long_round (rounds hands) round turn (sends (messages_of hands) round sender t.0) less t.1;
          terminal = refl;
          message = (message sender round (at_in (turn_order table) turn sender at) less).sent;
        };
  }

  spaced : (most : ℕ) → table.mode ≡ Aperiodic → HasSpread table most delay wake → IsSpacedWithin table most (cable_closed delay wake table hands)
  spaced delays mode so own least most k x y accepted at_x at_y =
      let some : 0 < length table.senders = setting.dealt.facts.some in
      let same : length (turn_order table) ≡ length table.senders = as_many in
      let round : ℕ → List Entry = λ r. cable_turns delay (messages_of hands) r (turn_order table) (cable_origin delay wake (messages_of hands) table.sg (turn_order table) r) in
      let inside : k % length (turn_order table) < length (turn_order table) = omega arith in
      let place : k / length (turn_order table) * length (turn_order table) + k % length (turn_order table) ≡ k = div-add-mod' k (length (turn_order table)) in
      let next : suc (k / length (turn_order table)) * length (turn_order table) + k % length (turn_order table) ≡ k + length table.senders = omega (arith, more_turns (k / length (turn_order table)) (length (turn_order table))) in
      let first = in_rounds_get (length (turn_order table)) round long_round (rounds hands) (k / length (turn_order table)) (k % length (turn_order table)) x inside
      (ap (slice_get (cable_closed delay wake table hands)) place ∙ at_x) in
      let second = in_rounds_get (length (turn_order table)) round long_round (rounds hands) (suc (k / length (turn_order table))) (k % length (turn_order table)) y inside
      (ap (slice_get (cable_closed delay wake table hands)) next ∙ at_y) in
      let near : IsNear table.senders so.spread wake so.base = record { low = so.early; high = so.late } in
      let apart = turns_apart table.senders so.spread delay (messages_of hands) (so.tolerant 0 (inl (omega arith))).delays wake so.base table.sg (turn_order table) (k / length (turn_order table)) (k % length (turn_order table)) shortest longest x y of_table near
      (λ a i. let m = message a (k / length (turn_order table)) i first.0 in (m.least, m.most))
      (λ a i. let m = message a (suc (k / length (turn_order table))) i second.0 in (m.least, m.most)) first.1 second.1 in
      let numbers = aperiodic_numbers table own least most mode accepted in
      let low : table.sg + cycle shortest (turn_order table) ≡ least =
      ap (λ c. table.sg + c) (cycle_sort shortest (turn_key table.mode) table.senders ∙ sym (cycle_sum shortest table.senders)) ∙ sym numbers.0 in
      let high : table.sg + cycle longest (turn_order table) ≡ most =
      ap (λ c. table.sg + c) (cycle_sort longest (turn_key table.mode) table.senders ∙ sym (cycle_sum longest table.senders)) ∙ sym numbers.1 in
      record {
        one_sender = apart.0;
        no_sooner = subst (λ c. x.moment + c ≤ y.moment) low apart.1;
        no_later = subst (λ c. y.moment ≤ x.moment + (c + cycle_delay table delays)) high (subst (λ c. y.moment ≤ x.moment + (table.sg + cycle longest (turn_order table) + c)) so.whole apart.2);
      }

-- where nobody wakes later than the least terminal gap lasts, all are in every round
module _ (table : Table) (hands : ℕ → List Message) (delay : Delays) (wake : ℕ → ℕ) (first : Sender) (others : List Sender)
    (hears : (b : Sender) (x : Entry) → In b others → first.tg ≤ x.moment → wake b.number ≤ x.moment + delay x b.number) where
  all_members : (count from : ℕ → ℕ) → members delay wake hands count (first ∷ others) from ≡ first ∷ others
  all_members count from = ap (λ o. first ∷ o) (all_pass others (λ b i. b_hears b i))
    where
      b_hears : (b : Sender) → In b others → hears_awake delay wake (sends hands (count first.number) first (from first.number + first.tg)) b ≡ true
      b_hears b i = le-leb (wake b.number) (from first.number + first.tg + delay (sends hands (count first.number) first (from first.number + first.tg)) b.number)
          (hears b (sends hands (count first.number) first (from first.number + first.tg)) i (omega arith))

      all_pass : (xs : List Sender) → ((b : Sender) → In b xs → hears_awake delay wake (sends hands (count first.number) first (from first.number + first.tg)) b ≡ true)
          → filter (hears_awake delay wake (sends hands (count first.number) first (from first.number + first.tg))) xs ≡ xs
      all_pass [] h = refl
      all_pass (y ∷ ys) h =
          ap (λ v. cond v (y ∷ filter (hears_awake delay wake (sends hands (count first.number) first (from first.number + first.tg))) ys)
          (filter (hears_awake delay wake (sends hands (count first.number) first (from first.number + first.tg))) ys)) (h y (inl refl))
          ∙ ap (λ zs. y ∷ zs) (all_pass ys (λ b i. h b (inr i)))

  -- turns of senders that have all sent as many messages
  same_turns : (round : ℕ) (count : ℕ → ℕ) (order : List Sender) (from at : ℕ → ℕ) → ((b : Sender) → In b order → count b.number ≡ round) → ((k : ℕ) → from k ≡ at k)
      → (grow_turns delay hands count order from ≡ cable_turns delay hands round order at) × ((k : ℕ) → grow_heard delay hands count order from k ≡ cable_heard delay hands round order at k)
  same_turns round count [] from at h same = (refl, same)
  same_turns round count (a ∷ order) from at h same =
      let x : Entry = sends hands round a (at a.number + a.tg) in
      let e : from a.number + a.tg ≡ at a.number + a.tg = ap (λ m. m + a.tg) (same a.number) in
      let so = same_turns round count order (heard_end delay x) (heard_end delay x) (λ b i. h b (inr i)) (λ k. refl) in (
        ap (λ c. sends hands c a (from a.number + a.tg) ∷ grow_turns delay hands count order (heard_end delay (sends hands c a (from a.number + a.tg)))) (h a (inl refl))
            ∙ ap (λ m. sends hands round a m ∷ grow_turns delay hands count order (heard_end delay (sends hands round a m))) e ∙ ap (λ l. x ∷ l) so.0,
        (λ k. ap (λ c. grow_heard delay hands count order (heard_end delay (sends hands c a (from a.number + a.tg))) k) (h a (inl refl))
            ∙ ap (λ m. grow_heard delay hands count order (heard_end delay (sends hands round a m)) k) e ∙ so.1 k),
      )

  record IsGrown (round : ℕ) : Type 0 where
    count : (b : Sender) → In b (first ∷ others) → (grown delay wake hands table.sg (first ∷ others) round).count b.number ≡ round
    from : (k : ℕ) → (grown delay wake hands table.sg (first ∷ others) round).from k ≡ cable_origin delay wake hands table.sg (first ∷ others) round k
    list : (grown delay wake hands table.sg (first ∷ others) round).list ≡ cable_rounds delay wake hands table.sg (first ∷ others) round

  is_grown : (round : ℕ) → IsGrown round
  is_grown zero = record { count = λ b i. refl; from = λ k. refl; list = refl }
  is_grown (suc round) =
      let so = is_grown round in
      let g : Growth = grown delay wake hands table.sg (first ∷ others) round in
      let all = all_members g.count g.from in
      let same = same_turns round g.count (first ∷ others) g.from (cable_origin delay wake hands table.sg (first ∷ others) round) so.count so.from in
      record {
        count = λ b i.
            ap (λ o. g.count b.number + (if list_any (λ (s : Sender). s.number == b.number) o then 1 else 0)) all
            ∙ ap (λ (v : Bool). g.count b.number + cond v 1 0) (any_in (λ (s : Sender). s.number == b.number) (first ∷ others) b i (eq-eqb b.number b.number refl))
            ∙ omega (arith, so.count b i);
        from = λ k. ap (λ o. grow_heard delay hands g.count o g.from k + table.sg) all ∙ ap (λ m. m + table.sg) (same.1 k);
        list = ap (λ o. g.list ++ grow_turns delay hands g.count o g.from) all ∙ ap (λ l. l ++ grow_turns delay hands g.count (first ∷ others) g.from) so.list
            ∙ ap (λ l. cable_rounds delay wake hands table.sg (first ∷ others) round ++ l) same.0;
      }

pub borne_is_closed : BorneIsClosed
borne_is_closed table hands most delay wake valid mode accepted even delays wakes bearing =
    let setting : Setting table (messages_of hands) (rounds hands) = setting_of table hands valid even in
    let so : HasSpread table most delay wake = spread_of table most delay wake setting.dealt.facts delays wakes (sym (in_aperiodic table most mode) ∙ bearing) in
    in_order (turn_order table) refl (omega (arith, length-sort (turn_key table.mode) table.senders, setting.dealt.facts.some)) (λ first others order_is.
    let first_in : In first table.senders = from_sort (turn_key table.mode) table.senders first (subst (λ o. In first o) (sym order_is) (inl refl)) in
    let others_in : (b : Sender) → In b others → In b table.senders = λ b i. from_sort (turn_key table.mode) table.senders b (subst (λ o. In b o) (sym order_is) (inr i)) in
    let hears : (b : Sender) (x : Entry) → In b others → first.tg ≤ x.moment → wake b.number ≤ x.moment + delay x b.number = λ b x i low.
    elim so.either [
      | inl one ↦ absurd (alone b others i (omega (arith, ap length order_is, length-sort (turn_key table.mode) table.senders, one)))
      | inr is ↦
          let k : so.spread ≤ first.tg = (so.tolerant 0 (inl (omega arith))).least first first_in in
          let w : wake b.number ≤ most = wakes b (others_in b i) in
          omega arith
    ] in
    let grown_is = is_grown table (messages_of hands) delay wake first others hears (rounds hands) in
    let list_is : growing delay wake table hands ≡ cable_closed delay wake table hands =
    ap (λ o. (grown delay wake (messages_of hands) table.sg o (rounds hands)).list) order_is ∙ grown_is.list ∙ ap (λ o. cable_rounds delay wake (messages_of hands) table.sg o (rounds hands)) (sym order_is) in
    let awake : IsFirstAwake most wake (turn_order table) = subst (IsFirstAwake most wake) (sym order_is) (λ b i. let w : wake first.number ≤ most = wakes first first_in in omega arith) in
    let founders_are : founders delay wake table hands ≡ turn_order table =
    ap (λ o. members delay wake (messages_of hands) (λ _. 0) o wake) order_is ∙ all_members table (messages_of hands) delay wake first others hears (λ _. 0) wake ∙ sym order_is in
    let cycles : least_cycle table ≡ shortest_cycle table (founders delay wake table hands) =
    ap (λ c. table.sg + c) (cycle_sum shortest table.senders ∙ sym (cycle_sort shortest (turn_key table.mode) table.senders) ∙ ap (cycle shortest) (sym founders_are) ∙ sym (cycle_sum shortest (founders delay wake table hands))) in
    let run = joining_is_orderly table hands most delay wake valid mode even delays bearing awake (subst (λ c. table.ti ≤ c) cycles (accepted_cycle table mode accepted)) in
    let joined = subst (IsJoinedRun table hands most delay wake) list_is run in
    record {
      lawful = joined.lawful;
      only = joined.only;
      clear = joined.clear;
      turns = in_turns table hands delay wake setting;
      spaced = spaced table hands delay wake setting most mode so;
    })
  where
    in_order : {X : Type 0} → (order : List Sender) → turn_order table ≡ order → 0 < length order → ((first : Sender) (others : List Sender) → turn_order table ≡ first ∷ others → X) → X
    in_order [] is some f = absurd (omega arith)
    in_order (first ∷ others) is some f = f first others is

    alone : (b : Sender) (others : List Sender) → In b others → suc (length others) ≡ 1 → ⊥
    alone b [] i e = i
    alone b (o ∷ others) i e = omega arith
