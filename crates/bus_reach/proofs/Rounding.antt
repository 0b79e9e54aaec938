-- The rounds of a growing schedule, one behind the other: the first sender opens a round, who hears that awake takes its turn in it, and the next
-- begins one synchronization gap later.
use Rattle.std.proofs.Common.{◌≡◌, ◌≢◌, ℕ, suc, ◌+◌, ◌*◌, ◌<◌, ◌≤◌, max, Bool, true, false, cond, List, [], ◌∷◌, ◌++◌, get_or, inl, inr, arith, sym, refl, ap, ◌∙◌, subst}
use Rattle.std.specs.Prelude.{◌==◌, if◌then◌else◌, nat_le}
use Rattle.std.specs.List.{filter, list_any}
use Rattle.std.proofs.lemmas.Bool.{eq-eqb, ne_eqb, le-leb, leb-true, cases_lt, cases_eq, cases_Bool, true≢false}
use Rattle.std.proofs.lemmas.List.{append_assoc}
use Rattle.bus_strings.specs.Members.{In}
use Rattle.bus_strings.proofs.MemberLaws.{in_push_cases, in_filter, from_filter, any_in, none_any, ordered_push}
use Rattle.bus_strings.specs.Messages.{Message, Entry, bits}
use Rattle.bus_strings.specs.Marking.{greatest_end}
use Rattle.bus_strings.specs.Transmissions.{end_of, IsOrdered}
use Rattle.bus_table.specs.declared.mode.Mode.TheVariants.{Aperiodic}
use Rattle.bus_table.specs.Tables.{Sender, Table}
use Rattle.bus_table.specs.Lengths.{shortest}
use Rattle.bus_table.specs.Turns.{turn_order}
use Rattle.bus_table.specs.inside.Orders.{Rises}
use Rattle.bus_schedule.specs.Closed.{sends}
use Rattle.bus_medium.specs.Delays.{Delays, heard_end}
use Rattle.bus_reach.specs.Joining.{grow_turns, grow_heard, hears_awake, members}
use Rattle.bus_medium.proofs.CableClocks.{gap_elapsed, gap_waiting, max_first}
use Rattle.bus_schedule.proofs.Growing.{Setting, sendable}
use Rattle.bus_schedule.proofs.Greatest.{ends_within, max_within}
use Rattle.bus_schedule.proofs.HandLemmas.{Sendable}
use Rattle.bus_medium.proofs.CableSteps.{put_here, put_other}
use Rattle.bus_medium.proofs.CableSteps as steps
use Rattle.bus_reach.proofs.Knowing.{StartsNext, due_behind, gap_from_behind, sent_behind, known_step, woken}
use Rattle.bus_schedule.proofs.Orders.{rises_after}
use Rattle.bus_reach.proofs.SpreadLemmas.{IsTolerant}
use Rattle.bus_reach.proofs.RoundTurns as turns
use Rattle.bus_reach.proofs.RoundTurns.{total, before, before_here, before_there, IsOut, Turn, Begin}

module _ (table : Table) (hands : ℕ → List Message) (n : ℕ) (setting : Setting table hands n) (mode : table.mode ≡ Aperiodic) (delay : Delays) (wake : ℕ → ℕ) (spread room : ℕ)
    (tolerant : IsTolerant table delay spread room) (share : Sender → ℕ) (share_most : (b : Sender) → share b ≤ b.tg + shortest b)
    (long : table.ti ≤ table.sg + total share (turn_order table)) (first : Sender) (others : List Sender) (order_is : turn_order table ≡ first ∷ others) where
  of_order : (b : Sender) → In b (turn_order table) → In b table.senders
  of_order = turns.of_order table hands n setting mode delay wake spread room tolerant share share_most long first others order_is

  in_order : (b : Sender) → In b table.senders → In b (turn_order table)
  in_order = turns.in_order table hands n setting mode delay wake spread room tolerant share share_most long first others order_is

  same : (a b : Sender) → In a table.senders → In b table.senders → b.number ≡ a.number → b ≡ a
  same = turns.same table hands n setting mode delay wake spread room tolerant share share_most long first others order_is

  rises : Rises (λ b. b.tg) (turn_order table)
  rises = turns.rises table hands n setting mode delay wake spread room tolerant share share_most long first others order_is

  apart : (a b : Sender) → In a table.senders → In b table.senders → a.tg < b.tg → b.number ≢ a.number
  apart = turns.apart table hands n setting mode delay wake spread room tolerant share share_most long first others order_is

  first_in : In first table.senders
  first_in = of_order first (subst (λ o. In first o) (sym order_is) (inl refl))

  others_in : (b : Sender) → In b others → In b table.senders
  others_in b i = of_order b (subst (λ o. In b o) (sym order_is) (inr i))

  first_least : (b : Sender) → In b others → first.tg < b.tg
  first_least b i = rises_after (λ c. c.tg) [] first others b (subst (λ o. Rises (λ c. c.tg) o) order_is rises) i

  others_apart : (b : Sender) → In b others → b.number ≢ first.number
  others_apart b i = apart first b first_in (others_in b i) (first_least b i)

  one_of : (b : Sender) → In b table.senders → b.number ≢ first.number → In b others
  one_of b i other = elim (subst (λ o. In b o) order_is (in_order b i)) [
    | inl here ↦ absurd (other (ap (λ (c : Sender). c.number) here))
    | inr behind ↦ behind
  ]

  -- the first turn of a round
  module _ (count : ℕ → ℕ) (round : ℕ) (from : ℕ → ℕ) (list : List Entry) (more : round < n)
      (t : Begin table hands delay wake spread room share first count round from list) where
    abbrev opens : Entry
    opens = sends hands (count first.number) first (from first.number + first.tg)

    -- who hears it awake
    abbrev awake_for : Sender → Bool
    awake_for = hears_awake delay wake opens

    -- the senders of the round, their turns, and where each terminal heard the end of the last of these
    abbrev these : List Sender
    these = members delay wake hands count (turn_order table) from

    abbrev spoken : List Entry
    spoken = grow_turns delay hands count these from

    abbrev heard_to : ℕ → ℕ
    heard_to = grow_heard delay hands count these from

    opens_left : count first.number < n
    opens_left = let k : count first.number ≤ round = t.count_most first first_in in omega arith

    opens_message : Sendable first (hands first.number) (count first.number) (get_or (hands first.number) (count first.number) [])
    opens_message = sendable table hands n setting first (count first.number) first_in opens_left

    opens_lag : (b : Sender) → In b table.senders → delay opens b.number ≤ spread
    opens_lag b i = tolerant.delays first b opens first_in i refl

    opens_own : delay opens first.number ≡ 0
    opens_own = tolerant.own opens

    first_awake : wake first.number ≤ from first.number
    first_awake =
        let woken : table.sg + wake first.number ≤ t.gap_from first.number = woken table hands delay wake list t.t t.last t.heard_all t.due t.gap_from t.sent t.known first first_in in
        let g : t.gap_from first.number ≡ table.sg + from first.number = t.first_gap in
        omega arith

    opens_starts : StartsNext table hands delay n t.last t.heard_all t.due t.gap_from t.sent first (count first.number) (from first.number + first.tg)
    opens_starts =
        let low : t.lo ≤ from first.number = t.first_low in
        let high : from first.number ≤ t.lo + spread = t.first_high in
        let last_low : t.last ≤ t.lo = t.last_low in
        let g : t.gap_from first.number ≡ table.sg + from first.number = t.first_gap in
        let k : spread ≤ first.tg = tolerant.least first first_in in
        record {
          behind = omega arith;
          ready = λ b i. let h : t.heard_all b.number ≤ t.lo + spread = t.ended b i in omega arith;
          interval = elim (t.due_by first first_in) [
            | inl never ↦ omega (arith, first_awake)
            | inr so ↦ omega (arith, ap (λ o. before share o first.number) order_is, before_here share first others first.number refl)
          ];
          terminal = omega arith;
          slow = λ b i other.
              let low_b : table.sg + t.lo ≤ t.gap_from b.number = t.low b i in
              let d : delay opens b.number ≤ spread = opens_lag b i in
              let far : first.tg + 2 * spread < b.tg = tolerant.apart first b first_in i (first_least b (one_of b i other)) in
              inl (omega arith);
          turn = t.count_is first first_in;
          left = opens_left;
        }

    opens_laid : IsOrdered (λ y z. end_of y + room ≤ z.moment) (list ++ opens ∷ [])
    opens_laid = ordered_push (λ y z. end_of y + room ≤ z.moment) list opens t.laid (λ y i.
        let ended : end_of y ≤ greatest_end list = ends_within list y i in
        let last_is : greatest_end list ≡ t.last = t.known.ends in
        let last_low : t.last ≤ t.lo = t.last_low in
        let some : 0 < end_of y = t.some y i in
        let low : t.lo ≤ from first.number = t.first_low in
        let k : spread ≤ first.tg = tolerant.least first first_in in
        elim tolerant.fits [
          | inl within ↦ omega arith
          | inr alone ↦
              let short : room ≤ table.sg = alone.1 in
              elim t.wide [ inl none ↦ omega arith | inr wide ↦ omega arith ]
        ])

    idle_first : (b : Sender) → In b table.senders → IsOut awake_for (first ∷ []) others b
        → gap_from_behind table delay wake t.gap_from first opens b.number
        ≡ max (table.sg + heard_end delay opens b.number + table.sg) (table.sg + wake b.number)
    idle_first b i out =
        elim out [
          | inl spoken ↦
              let is : b ≡ first = elim spoken [ inl now ↦ now | inr nothing ↦ absurd nothing ] in
              let here : b.number ≡ first.number = ap (λ (c : Sender). c.number) is in
              let w : wake b.number ≡ wake first.number = ap wake here in
              steps.gap_from_here table.sg table.sg delay wake t.gap_from first.number opens b.number here
              ∙ max_first (table.sg + heard_end delay opens b.number + table.sg) (table.sg + wake b.number) (omega (arith, first_awake))
          | inr not ↦
              let asleep : opens.moment + delay opens b.number < wake b.number =
              elim (cases_lt (opens.moment + delay opens b.number) (wake b.number)) [
                | inl less ↦ less
                | inr more ↦ absurd (true≢false (sym (le-leb (wake b.number) (opens.moment + delay opens b.number) more) ∙ not.1))
              ] in
              let woken : table.sg + wake b.number ≤ t.gap_from b.number = woken table hands delay wake list t.t t.last t.heard_all t.due t.gap_from t.sent t.known b i in
              steps.gap_from_other table.sg table.sg delay wake t.gap_from first.number opens b.number (others_apart b not.0)
              ∙ gap_waiting table.sg table.sg (wake b.number) (t.gap_from b.number) (opens.moment + delay opens b.number)
              (heard_end delay opens b.number) (omega arith)
        ]

    first_turn : Turn table hands delay wake spread room share first awake_for count (first ∷ []) others
        (heard_end delay opens) (list ++ opens ∷ [])
    first_turn =
        let bit : 0 < bits (get_or (hands first.number) (count first.number) []) = opens_message.some_bits in
        let least : shortest first ≤ bits (get_or (hands first.number) (count first.number) []) = opens_message.least in
        let low : t.lo ≤ from first.number = t.first_low in
        let share_first : share first ≤ first.tg + shortest first = share_most first in
        let awake : wake first.number ≤ from first.number = first_awake in
        let whole : total share (turn_order table) ≡ share first + total share others = ap (total share) order_is in
        let place : before share (turn_order table) first.number ≡ 0 = ap (λ o. before share o first.number) order_is ∙ before_here share first others first.number refl in
        let behind : (b : Sender) → In b others → before share (turn_order table) b.number ≡ share first + before share others b.number = λ b i.
        ap (λ o. before share o b.number) order_is ∙ before_there share first others b.number (others_apart b i) in
        record {
          lo = end_of opens;
          t = from first.number + first.tg + 1;
          last = end_of opens;
          due = due_behind table t.due first (from first.number + first.tg);
          gap_from = gap_from_behind table delay wake t.gap_from first opens;
          sent = sent_behind t.sent first;
          split = order_is;
          known = known_step table hands n setting delay wake tolerant.own list t.t t.last t.heard_all t.due t.gap_from t.sent first (count first.number) (from first.number + first.tg) first_in t.known opens_starts;
          low = λ b i. omega arith;
          high = λ b i. omega (arith, opens_lag b i);
          last_low = omega arith;
          spoken = omega arith;
          laid = opens_laid;
          some = λ y i. elim (in_push_cases list opens y i) [
            | inl old ↦ t.some y old
            | inr is ↦ omega (arith, ap end_of is)
          ];
          awake = omega arith;
          settled = λ b i. elim (cases_lt (opens.moment + delay opens b.number) (wake b.number)) [
            | inl asleep ↦ inl (t.absent b i (asleep_test b asleep))
            | inr hears ↦ inr (omega (arith, opens_lag b i))
          ];
          absent = λ b i not. t.absent b (others_in b i) not;
          waiting = λ b i yes'.
              let hears : wake b.number ≤ opens.moment + delay opens b.number = leb-true (wake b.number) (opens.moment + delay opens b.number) yes' in
              let k : spread ≤ first.tg = tolerant.least first first_in in
              let reached : t.gap_from b.number ≤ table.sg + (opens.moment + delay opens b.number) = elim (t.high b (others_in b i)) [
                | inl just ↦ omega arith
                | inr near ↦ omega arith
              ] in
              steps.gap_from_other table.sg table.sg delay wake t.gap_from first.number opens b.number (others_apart b i)
              ∙ gap_elapsed table.sg table.sg (wake b.number) (t.gap_from b.number) (opens.moment + delay opens b.number)
              (heard_end delay opens b.number) reached;
          idle = idle_first;
          due_waiting = λ b i. elim (t.due_by b (others_in b i)) [
            | inl never ↦ inl (omega (arith, put_other t.due first.number (table.sg + (from first.number + first.tg) + table.ti) b.number (others_apart b i)))
            | inr so ↦ inr (omega (arith, put_other t.due first.number (table.sg + (from first.number + first.tg) + table.ti) b.number (others_apart b i), behind b i))
          ];
          due_idle = λ b i out. elim out [
            | inl spoken ↦
                let is : b ≡ first = elim spoken [ inl now ↦ now | inr nothing ↦ absurd nothing ] in
                let here : b.number ≡ first.number = ap (λ (c : Sender). c.number) is in
                let tg : b.tg ≡ first.tg = ap (λ (c : Sender). c.tg) is in
                let there : before share (turn_order table) b.number ≡ 0 = ap (before share (turn_order table)) here ∙ place in
                inr (omega (arith, put_here t.due first.number (table.sg + (from first.number + first.tg) + table.ti) b.number here, long))
            | inr not ↦ elim (t.due_by b i) [
              | inl never ↦ inl (omega (arith, put_other t.due first.number (table.sg + (from first.number + first.tg) + table.ti) b.number (others_apart b not.0)))
              | inr so ↦ inr (omega (arith, put_other t.due first.number (table.sg + (from first.number + first.tg) + table.ti) b.number (others_apart b not.0)))
            ]
          ];
          count_waiting = λ b i. put_other t.sent first.number (t.sent first.number + 1) b.number (others_apart b i) ∙ t.count_is b (others_in b i);
          count_spoken = λ b i.
              let is : b ≡ first = elim i [ inl now ↦ now | inr nothing ↦ absurd nothing ] in
              let here : b.number ≡ first.number = ap (λ (c : Sender). c.number) is in
              let passes : awake_for b ≡ true =
              le-leb (wake b.number) (opens.moment + delay opens b.number) (omega (arith, ap wake here)) in
              put_here t.sent first.number (t.sent first.number + 1) b.number here ∙ ap (λ v. v + 1) (t.count_is first first_in ∙ ap count (sym here))
              ∙ ap (λ (v : Bool). count b.number + cond v 1 0) (sym passes);
        }
      where
        asleep_test : (b : Sender) → opens.moment + delay opens b.number < wake b.number
            → awake_for b ≡ false
        asleep_test b asleep = elim (cases_Bool (nat_le (wake b.number) (opens.moment + delay opens b.number))) [
          | inl yes' ↦ let k : wake b.number ≤ opens.moment + delay opens b.number =
              leb-true (wake b.number) (opens.moment + delay opens b.number) yes' in absurd (omega arith)
          | inr no' ↦ no'
        ]

    -- the whole round
    whole_round : Turn table hands delay wake spread room share first awake_for count (turn_order table) []
        heard_to (list ++ spoken)
    whole_round =
        let x : Entry = opens in
        let p : Sender → Bool = hears_awake delay wake x in
        let most : (b : Sender) → In b table.senders → count b.number < n = λ b i. let k : count b.number ≤ round = t.count_most b i in omega arith in
        let so = turns.turns_on table hands n setting mode delay wake spread room tolerant share share_most long first others order_is awake_for count others (first ∷ [])
        (heard_end delay opens) (list ++ opens ∷ []) most first_turn in
        subst (λ o. Turn table hands delay wake spread room share first awake_for count o []
        (grow_heard delay hands count (members delay wake hands count o from) from) (list ++ grow_turns delay hands count (members delay wake hands count o from) from)) (sym order_is)
        (subst (λ k. Turn table hands delay wake spread room share first awake_for count (first ∷ others) []
        (grow_heard delay hands count (members delay wake hands count (first ∷ others) from) from) k)
        (append_assoc list (x ∷ []) (grow_turns delay hands count (filter p others) (heard_end delay x))) so)

    -- who was in it
    was_in : (b : Sender) → In b table.senders
        → list_any (λ (s : Sender). s.number == b.number) these ≡ awake_for b
    was_in b i =
        ap (λ o. list_any (λ (s : Sender). s.number == b.number) (members delay wake hands count o from)) order_is
        ∙ elim (cases_Bool (awake_for b)) [
          | inl yes' ↦ any_in (λ (s : Sender). s.number == b.number) (first ∷ filter awake_for others) b
              (elim (cases_eq b.number first.number) [
                | inl here ↦ inl (same first b first_in i here)
                | inr other ↦ inr (in_filter awake_for others b (one_of b i other) yes')
              ])
              (eq-eqb b.number b.number refl) ∙ sym yes'
          | inr no' ↦ none_any (λ (s : Sender). s.number == b.number) (first ∷ filter awake_for others)
              (λ s j. elim (cases_eq s.number b.number) [
                | inl equal ↦ absurd (elim j [
                  | inl is ↦
                      let here : b.number ≡ first.number = sym equal ∙ ap (λ (c : Sender). c.number) is in
                      true≢false (sym (le-leb (wake b.number) (opens.moment + delay opens b.number) (omega (arith, ap wake here, first_awake))) ∙ no')
                  | inr later ↦
                      let f = from_filter awake_for others s later in
                      let is : s ≡ b = same b s i (others_in s f.0) equal in
                      true≢false (sym f.1 ∙ ap awake_for is ∙ no')
                ])
                | inr differ ↦ ne_eqb s.number b.number differ
              ]) ∙ sym no'
        ]

    -- the next one begins one synchronization gap later
    pub round_on : Begin table hands delay wake spread room share first
        (λ k. count k + (if list_any (λ (s : Sender). s.number == k) these then 1 else 0)) (suc round)
        (λ k. heard_to k + table.sg)
        (list ++ spoken)
    round_on =
        let w = whole_round in
        let last_low : w.last ≤ w.lo = w.last_low in
        let awake : wake first.number ≤ w.lo = w.awake in
        let low_first : w.lo ≤ heard_to first.number = w.low first first_in in
        let short : first.tg + 2 * spread < table.sg = tolerant.short first first_in in
        let out : (b : Sender) → In b table.senders → IsOut awake_for (turn_order table) [] b = λ b i. inl (in_order b i) in
        let counted : (b : Sender) → In b table.senders → w.sent b.number ≡ count b.number + (if list_any (λ (s : Sender). s.number == b.number) these then 1 else 0) = λ b i.
        w.count_spoken b (in_order b i) ∙ ap (λ (v : Bool). count b.number + cond v 1 0) (sym (was_in b i)) in
        record {
          lo = w.lo + table.sg;
          t = w.t;
          last = w.last;
          heard_all = heard_to;
          due = w.due;
          gap_from = w.gap_from;
          sent = w.sent;
          known = w.known;
          ended = λ b i. omega (arith, w.high b i);
          first_gap = w.idle first first_in (out first first_in)
              ∙ sym (max_first (table.sg + heard_to first.number + table.sg) (table.sg + wake first.number) (omega arith)) ∙ omega arith;
          first_low = omega arith;
          first_high = omega (arith, w.high first first_in);
          low = λ b i. omega (
            arith,
            w.low b i,
            w.idle b i (out b i),
            (max_within (table.sg + heard_to b.number + table.sg) (table.sg + wake b.number)).0,
          );
          high = λ b i. elim (cases_lt (heard_to b.number + table.sg) (wake b.number)) [
            | inl asleep ↦ inl (omega (arith, w.idle b i (out b i)))
            | inr awake_then ↦ inr (omega (arith, w.idle b i (out b i), w.high b i))
          ];
          last_low = omega arith;
          wide = inr (omega arith);
          laid = w.laid;
          some = w.some;
          due_by = λ b i. elim (w.due_idle b i (out b i)) [ inl never ↦ inl never | inr so ↦ inr (omega arith) ];
          absent = λ b i not. elim (w.settled b i) [
            | inl none ↦ none
            | inr awake_then ↦ absurd (true≢false (sym (le-leb (wake b.number) _ (omega arith)) ∙ not))
          ];
          count_is = counted;
          count_most = λ b i.
              let k : count b.number ≤ round = t.count_most b i in
              one_more (count b.number) round (list_any (λ (s : Sender). s.number == b.number) these) k;
        }
      where
        one_more : (c r : ℕ) (v : Bool) → c ≤ r → c + cond v 1 0 ≤ suc r
        one_more c r true h = omega arith
        one_more c r false h = omega arith
