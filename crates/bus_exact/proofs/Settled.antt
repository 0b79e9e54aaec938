-- An aperiodic table that starts itself settles on a cable that it bears.
use Rattle.std.proofs.Common.{◌≡◌, ℕ, ◌+◌, ◌-◌, ◌*◌, ◌<◌, ◌≤◌, cond, ◌++◌, map, length, inl, inr, arith, sym, refl, ap, ◌∙◌, subst, eq-eqb, ne_eqb}
use Rattle.std.specs.Prelude.{IsTrue}
use Rattle.std.proofs.lemmas.Bool.{cases_lt, cases_eq}
use Rattle.bus_strings.specs.Members.{In}
use Rattle.bus_strings.proofs.MemberLaws.{in_append_cases, in_append_right, in_map}
use Rattle.bus_strings.specs.Messages.{Entry, bits}
use Rattle.bus_strings.specs.Transmissions.{end_of}
use Rattle.bus_table.specs.Tables.{Sender, sender_numbers}
use Rattle.bus_table.specs.Turns.{turn_order}
use Rattle.bus_table.proofs.TurnLaws.{order_length}
use Rattle.bus_table.proofs.ValidLaws.{valid_facts}
use Rattle.bus_medium.specs.Delays.{HearsWithin, heard}
use Rattle.bus_medium.specs.Past.{own}
use Rattle.bus_regime.specs.Starting.{starts_itself}
use Rattle.bus_regime.specs.Verdicts.{least_cycle, most_cycle}
use Rattle.bus_schedule.specs.CableRuns.{clear_within}
use Rattle.bus_schedule.specs.Even.{messages_of}
use Rattle.bus_schedule.specs.Runs.{IsClear}
use Rattle.bus_reach.specs.Runs.{cycle_delay}
use Rattle.bus_reach.specs.Settling.{behind, until}
use Rattle.bus_reach.proofs.Clearing.{heard_clear}
use Rattle.bus_reach.proofs.SpreadLemmas.{LeavesRoom}
use Rattle.bus_clocks.specs.Buses.{among}
use Rattle.bus_clocks.specs.Courses.{HasMore, HaveLeft, IsLeftAlone}
use Rattle.bus_clocks.specs.Entries.{In as Among, AreClear}
use Rattle.bus_clocks.specs.Rounds.{InRounds, AreSpaced, least_round, most_round, most_spoken}
use Rattle.bus_clocks.specs.Settling.{HasSettled}
use Rattle.bus_clocks.proofs.Orders.{any_start_settles}
use Rattle.bus_exact.specs.Exact.{place_of, delay_among, bus_of}
use Rattle.bus_exact.specs.Settling.{AreRoundsWithin, ComeAgain, HasSettledOnCable, AnyStartSettlesOnCable}
use Rattle.bus_exact.proofs.Courses.{case_of, is_course, to_left}
use Rattle.bus_exact.proofs.Rooms.{among_one as alone_none, among_more as more_all, among_delays, each_delay, room_of, has_room, starts, spoken_least, spoken_most}
use Rattle.bus_exact.proofs.Returning.{Split, split, parts_are, are_rounds, come_again, apart, sooner, one_apart}
use Rattle.bus_exact.proofs.Ticks.{Case, order, of_table, bus, tick, course, at, sent, to_among}

module _ (s : Case) where
  -- messages that last
  module _ (some : 0 < s.end) (left : (b : Sender) (t : ℕ) → In b s.table.senders → t < s.end → length (own s.list b.number t) < length (messages_of s.hands b.number)) where
    have : HaveLeft (bus s) (course s)
    have k u known less =
        let p = at s k known in
        let soon : u - s.table.sg < s.end = omega arith in
        to_left s k p.0 p.1 u (left p.0 (u - s.table.sg) (of_table s p.0 p.1.there) soon)

    have_more : (k : ℕ) → k < length (order s) → HasMore (course s) k
    have_more k known t less = have k t known less

  left_alone : (up : ℕ) → ((b : Sender) → In b s.table.senders → s.wake b.number ≤ up + s.table.sg) → IsLeftAlone (bus s) (course s) (up + s.table.sg)
  left_alone up wakes = record {
    powered = λ k known.
        let p = at s k known in
        let w : s.wake p.0.number ≤ up + s.table.sg = wakes p.0 (of_table s p.0 p.1.there) in
        let e : (course s).up k ≡ s.wake p.0.number = p.1.has (λ b. s.wake b.number) in
        omega arith;
    due = λ k known. omega arith;
    still = λ n t low. refl;
  }

  -- one alone hears itself at once, as the table says
  same_bus : (d : ℕ) → s.d ≡ delay_among s.table d → among (bus s) ≡ bus s
  same_bus d is = elim (cases_eq (length (order s)) 1) [
    | inl one ↦
        let long : length (order s) ≡ length s.table.senders = order_length s.table in
        let none : 0 ≡ s.d = sym (is ∙ alone_none s.table d (omega arith)) in
        ap (λ b. bus_of s.table (cond b 0 s.d)) (eq-eqb (length (order s)) 1 one) ∙ ap (bus_of s.table) none
    | inr more ↦ ap (λ b. bus_of s.table (cond b 0 s.d)) (ne_eqb (length (order s)) 1 more)
  ]

  pub settled : (d up : ℕ) → s.d ≡ delay_among s.table d → ((b : Sender) → In b s.table.senders → LeavesRoom s.d s.table.sg s.table.senders b) → IsTrue (starts_itself s.table)
      → ((b : Sender) (t : ℕ) → In b s.table.senders → t < s.end → length (own s.list b.number t) < length (messages_of s.hands b.number)) → 0 < s.end
      → ((b : Sender) → In b s.table.senders → s.wake b.number ≤ up + s.table.sg) → HasSettledOnCable s.table s.delay d up s.end s.list
  settled d up is room itself left ends wakes =
      let lone : among (bus s) ≡ bus s = same_bus d is in
      let a = any_start_settles (bus s) (course s) (up + s.table.sg) s.table.sg (has_room s room) (starts s itself) (is_course s) (have ends left) (left_alone up wakes) (λ k known. omega arith) in
      let h : HasSettled (bus s) (course s) (up + s.table.sg) a.0 = a.2 in
      let p : Split s s.list h.before h.rounds = split s s.list h.before h.rounds h.parts in
      let total : most_round (bus s) ≡ most_cycle s.table + length s.table.senders * s.d = spoken_most s in
      let delays : length s.table.senders * s.d ≡ cycle_delay s.table d = ap (λ n. length s.table.senders * n) is ∙ each_delay s.table d in
      let most : most_round (bus s) ≡ most_cycle s.table + cycle_delay s.table d = omega arith in
      let soon : a.0 + s.d ≤ up + s.table.sg + s.table.sg + most_spoken (bus s) =
      subst (λ b. a.0 + b.delay ≤ up + s.table.sg + s.table.sg + most_spoken b) lone a.1 in
      let in_first : (x : Entry) → In x p.first → Among (tick s x) h.before = λ x i. subst (Among (tick s x)) p.is_first (to_among s p.first x i) in
      let ended : (x : Entry) → In x p.first → end_of x + s.table.sg ≤ a.0 = λ x i. (let e : s.table.sg + x.moment + bits x.message ≤ a.0 = h.ended (tick s x) (in_first x i) in omega arith) in
      let in_second : (x : Entry) → In x p.second → In x s.list = λ x i. subst (In x) (sym p.whole) (in_append_right p.first p.second x i) in
      let long : length (order s) ≡ length s.table.senders = order_length s.table in
      let any : 0 < length (order s) = (has_room s room).some in
      let rounds : AreRoundsWithin s.d s.table.sg (turn_order s.table) s.end a.0 p.second =
      are_rounds s (have_more ends left) any (turn_order s.table) refl p.second in_second a.0
      (subst (InRounds (bus s) (course s) 0 a.0) (sym p.is_second) (subst (λ b. InRounds b (course s) 0 a.0 h.rounds) lone h.order)) in
      let sg : 9 ≤ s.table.sg = s.facts.sg_least in
      let early : (x : Entry) → In x p.first → x.moment < a.0 = λ x i. (let e : end_of x + s.table.sg ≤ a.0 = ended x i in omega arith) in
      let later : (x : Entry) → In x p.second → a.0 ≤ x.moment = λ x i. sooner s.d s.table.sg s.end (turn_order s.table) a.0 p.second rounds x i in
      let both = parts_are a.0 s.list p.first p.second p.whole early later in
      let of_first : (x : Entry) → In x s.list → x.moment < a.0 → In x p.first = λ x i less.
      elim (in_append_cases p.first p.second x (subst (In x) p.whole i)) [
        | inl j ↦ j
        | inr j ↦ (let low : a.0 ≤ x.moment = later x j in absurd (omega arith))
      ] in
      let clear : (number : ℕ) → HearsWithin (clear_within s.table d) (sender_numbers s.table) s.delay number → IsClear (heard s.delay number p.second) = λ number within.
      (let near : (x : Entry) → In x p.second → s.delay x number ≤ clear_within s.table d = λ x i.
      within x (let f = sent s x (in_second x i) in subst (λ n. In n (sender_numbers s.table)) (sym f.number_is) (in_map (λ (b : Sender). b.number) s.table.senders f.by (of_table s f.by f.there))) in
      elim (cases_eq (length s.table.senders) 1) [
        | inl one ↦
            let is_sg : clear_within s.table d ≡ s.table.sg = ap (λ b. cond b s.table.sg d) (eq-eqb (length s.table.senders) 1 one) in
            heard_clear s.delay s.table.sg number p.second (λ x i. let n : s.delay x number ≤ clear_within s.table d = near x i in omega arith)
            (one_apart s.d s.table.sg s.end (turn_order s.table) a.0 p.second (long ∙ one) rounds)
        | inr more ↦
            let is_d : clear_within s.table d ≡ d = ap (λ b. cond b s.table.sg d) (ne_eqb (length s.table.senders) 1 more) in
            let same : s.d ≡ d = is ∙ more_all s.table d more in
            heard_clear s.delay s.d number p.second (λ x i. let n : s.delay x number ≤ clear_within s.table d = near x i in omega arith)
            (apart s s.d p.second (subst (AreClear s.d) (sym p.is_second) h.clear))
      ]) in
      let again = come_again s (have_more ends left) any (least_cycle s.table) (most_cycle s.table + cycle_delay s.table d) p.second in_second (λ x i. (sent s x i).at_is.known)
      (subst (λ m. AreSpaced (least_cycle s.table) m (course s) (map (tick s) p.second)) most
      (subst (λ n. AreSpaced n (most_round (bus s)) (course s) (map (tick s) p.second)) (spoken_least s)
      (subst (λ b. AreSpaced (least_round b) (most_round b) (course s) (map (tick s) p.second)) lone
      (subst (AreSpaced (least_round (among (bus s))) (most_round (among (bus s))) (course s)) (sym p.is_second) h.spaced)))) in
      record {
        origin = a.0;
        soon = omega arith;
        parts = p.whole ∙ ap (λ l. l ++ p.second) (sym both.0) ∙ ap (λ l. until a.0 s.list ++ l) (sym both.1);
        rounds = subst (λ n. AreRoundsWithin n s.table.sg (turn_order s.table) s.end a.0 (behind a.0 s.list)) is
            (subst (AreRoundsWithin s.d s.table.sg (turn_order s.table) s.end a.0) (sym both.1) rounds);
        clear = λ number within. subst (λ l. IsClear (heard s.delay number l)) (sym both.1) (clear number within);
        spaced = subst (ComeAgain (least_cycle s.table) (most_cycle s.table + cycle_delay s.table d) s.end) (sym both.1) again;
        quiet = λ x i less. ended x (of_first x i less);
        once = λ x y i j same_terminal from less. elim (cases_lt y.moment a.0) [
          | inr fine ↦ fine
          | inl early ↦ absurd (h.once (tick s x) (tick s y) (in_first x (of_first x i (omega arith))) (in_first y (of_first y j early)) (ap (place_of (order s)) same_terminal) (omega arith) (omega arith))
        ];
      }

pub any_start_settles_on_cable : AnyStartSettlesOnCable
any_start_settles_on_cable table hands delay wake d up horizon list valid mode itself bearing dealt delays wakes left long law =
    let s : Case = case_of table hands delay wake (delay_among table d) horizon list valid mode dealt (among_delays table d delay delays) law in
    let sg : 9 ≤ table.sg = (valid_facts table valid).sg_least in
    settled s d up refl (room_of table d (valid_facts table valid) mode bearing) itself left (omega arith) wakes
