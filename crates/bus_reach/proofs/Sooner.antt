-- Whoever joins starts soon behind its wake: it didn't hear the round before begin awake, and a round with the gap behind it takes a longest
-- cycle at most, and what delays add to it.
use Rattle.std.proofs.Common.{◌≡◌, ℕ, zero, suc, ◌+◌, ◌*◌, ◌<◌, ◌≤◌, ◌⊎◌, Bool, true, false, cond, List, [], ◌∷◌, length, get_or, inl, inr, arith, sym, refl, ap, ◌∙◌, subst}
use Rattle.std.specs.Prelude.{◌==◌}
use Rattle.std.specs.List.{filter, list_any}
use Rattle.std.proofs.lemmas.Bool.{cases_lt, cases_eq, le-leb, eq-eqb, ne_eqb}
use Rattle.std.proofs.lemmas.Nat.{mul-le}
use Rattle.bus_strings.specs.Members.{In}
use Rattle.bus_strings.proofs.MemberLaws.{in_filter, from_filter}
use Rattle.bus_strings.specs.Messages.{Message, Entry, bits}
use Rattle.bus_strings.specs.Transmissions.{end_of}
use Rattle.bus_table.specs.Tables.{Sender, Table, sender_numbers}
use Rattle.bus_table.specs.Lengths.{longest}
use Rattle.bus_table.specs.Turns.{turn_key, turn_order}
use Rattle.bus_table.proofs.TurnLaws.{from_sort, in_sort, length-sort}
use Rattle.bus_table.proofs.ValidLaws.{valid_facts}
use Rattle.bus_medium.specs.Delays.{Delays, AreDelays, heard_end}
use Rattle.bus_medium.specs.Wakes.{Wakes}
use Rattle.bus_medium.proofs.Hearing.{hears_sender}
use Rattle.bus_regime.specs.Verdicts.{most_cycle}
use Rattle.bus_schedule.specs.Closed.{sends}
use Rattle.bus_schedule.specs.Even.{messages_of, rounds}
use Rattle.bus_schedule.proofs.Growing.{Setting, sendable}
use Rattle.bus_schedule.proofs.HandLemmas.{Sendable}
use Rattle.bus_schedule.proofs.RunLemmas.{setting_of}
use Rattle.bus_schedule.proofs.Spacing.{cycle, cycle_sum, cycle_sort, cycle_filter}
use Rattle.bus_reach.specs.Joining.{grow_turns, grow_heard, hears_awake, members, Growth, grown, IsFirstAwake, IsNewIn}
use Rattle.bus_reach.specs.Laws.{JoinersComeSoon}
use Rattle.bus_reach.specs.Runs.{cycle_delay}
use Rattle.bus_reach.proofs.SpreadLemmas.{only_one}

length_filter : (p : Sender → Bool) (xs : List Sender) → length (filter p xs) ≤ length xs
length_filter p [] = omega arith
length_filter p (x ∷ xs) = elim (p x) as (λ v. length (cond v (x ∷ filter p xs) (filter p xs)) ≤ length (x ∷ xs)) [
  | true ↦ omega (arith, length_filter p xs)
  | false ↦ omega (arith, length_filter p xs)
]

module _ (table : Table) (hands : ℕ → List Message) (n : ℕ) (setting : Setting table hands n) (delay : Delays) (wake : Wakes) (spread : ℕ)
    (lags : (a b : Sender) (x : Entry) → In a table.senders → In b table.senders → x.terminal ≡ a.number → delay x b.number ≤ spread) where
  -- the turns of these senders end, and are heard to their end, no later than their longest messages and the spread let them
  record Within (count : ℕ → ℕ) (order : List Sender) (from : ℕ → ℕ) (most : ℕ) : Type 0 where
    ends : (x : Entry) → In x (grow_turns delay hands count order from) → end_of x ≤ most
    heard : (b : Sender) → In b table.senders → grow_heard delay hands count order from b.number ≤ most

  within : (count : ℕ → ℕ) (order : List Sender) (from : ℕ → ℕ) (high : ℕ) → ((a : Sender) → In a order → In a table.senders)
      → ((a : Sender) → In a order → count a.number < n) → ((b : Sender) → In b table.senders → from b.number ≤ high)
      → Within count order from (high + cycle longest order + length order * spread)
  within count [] from high there left low = record { ends = λ x i. absurd i; heard = λ b i. omega (arith, low b i) }
  within count (a ∷ order) from high there left low =
      let a_in : In a table.senders = there a (inl refl) in
      let x : Entry = sends hands (count a.number) a (from a.number + a.tg) in
      let message : Sendable a (hands a.number) (count a.number) (get_or (hands a.number) (count a.number) []) =
      sendable table hands n setting a (count a.number) a_in (left a (inl refl)) in
      let most : bits (get_or (hands a.number) (count a.number) []) ≤ longest a = message.most in
      let from_a : from a.number ≤ high = low a a_in in
      let so = within count order (heard_end delay x) (high + (a.tg + longest a) + spread) (λ b i. there b (inr i)) (λ b i. left b (inr i))
      (λ b i. let d : delay (sends hands (count a.number) a (from a.number + a.tg)) b.number ≤ spread = lags a b (sends hands (count a.number) a (from a.number + a.tg)) a_in i refl in omega arith) in
      let whole : high + (a.tg + longest a) + spread + cycle longest order + length order * spread ≡ high + cycle longest (a ∷ order) + length (a ∷ order) * spread =
      more_turns high (a.tg + longest a) spread (cycle longest order) (length order) in
      record {
        ends = λ y i. subst (λ m. end_of y ≤ m) whole (elim i [
          | inl is ↦ let e : end_of y ≡ end_of (sends hands (count a.number) a (from a.number + a.tg)) = ap end_of is in
              at_first (end_of y) (from a.number) a.tg (bits (get_or (hands a.number) (count a.number) [])) high (longest a) spread (cycle longest order) (length order * spread) e from_a most
          | inr later ↦ so.ends y later
        ]);
        heard = λ b i. subst (λ m. grow_heard delay hands count (a ∷ order) from b.number ≤ m) whole (so.heard b i);
      }
    where
      more_turns : (high own spread rest k : ℕ) → high + own + spread + rest + k * spread ≡ high + (own + rest) + suc k * spread
      more_turns high own spread rest k = omega arith

      at_first : (e from tg bits high long spread rest others : ℕ) → e ≡ from + tg + bits → from ≤ high → bits ≤ long → e ≤ high + (tg + long) + spread + rest + others
      at_first e from tg bits high long spread rest others is low most = omega arith

  -- in a round only the first counts from where the round before leads
  module _ (first : Sender) (others : List Sender) (there : (a : Sender) → In a (first ∷ others) → In a table.senders) where
    round_within : (count from : ℕ → ℕ) (high : ℕ) → ((a : Sender) → In a table.senders → count a.number < n) → from first.number ≤ high
        → Within count (members delay wake hands count (first ∷ others) from) from (high + cycle longest (first ∷ others) + length (first ∷ others) * spread)
    round_within count from high left low =
        let first_in : In first table.senders = there first (inl refl) in
        let x : Entry = sends hands (count first.number) first (from first.number + first.tg) in
        let p : Sender → Bool = hears_awake delay wake x in
        let message : Sendable first (hands first.number) (count first.number) (get_or (hands first.number) (count first.number) []) =
        sendable table hands n setting first (count first.number) first_in (left first first_in) in
        let most : bits (get_or (hands first.number) (count first.number) []) ≤ longest first = message.most in
        let passed : (b : Sender) → In b (filter (hears_awake delay wake (sends hands (count first.number) first (from first.number + first.tg))) others) → In b table.senders = λ b i.
        there b (inr (from_filter (hears_awake delay wake (sends hands (count first.number) first (from first.number + first.tg))) others b i).0) in
        let so = within count (filter p others) (heard_end delay x) (high + (first.tg + longest first) + spread) passed (λ b i. left b (passed b i))
        (λ b i. let d : delay (sends hands (count first.number) first (from first.number + first.tg)) b.number ≤ spread = lags first b (sends hands (count first.number) first (from first.number + first.tg)) first_in i refl in omega arith) in
        let bound : high + (first.tg + longest first) + spread + cycle longest (filter p others) + length (filter p others) * spread
        ≤ high + cycle longest (first ∷ others) + length (first ∷ others) * spread =
        fewer high (first.tg + longest first) spread (cycle longest (filter p others)) (cycle longest others) (length (filter p others)) (length others) (cycle_filter longest p others) (length_filter p others) in
        record {
          ends = λ y i. elim i [
            | inl is ↦ let e : end_of y ≡ end_of (sends hands (count first.number) first (from first.number + first.tg)) = ap end_of is in
                at_first (end_of y) (from first.number) first.tg (bits (get_or (hands first.number) (count first.number) [])) high (longest first) (cycle longest others) (length (first ∷ others) * spread) e low most
            | inr later ↦ at_most (end_of y) _ _ (so.ends y later) bound
          ];
          heard = λ b i. at_most (grow_heard delay hands count (members delay wake hands count (first ∷ others) from) from b.number) _ _ (so.heard b i) bound;
        }
      where
        at_most : (a b c : ℕ) → a ≤ b → b ≤ c → a ≤ c
        at_most a b c h k = omega arith

        fewer : (high own spread some all k m : ℕ) → some ≤ all → k ≤ m → high + own + spread + some + k * spread ≤ high + (own + all) + suc m * spread
        fewer high own spread some all k m less few =
            let e : k * spread ≤ m * spread = mul-le k spread m spread few (omega arith) in
            omega arith

        at_first : (e from tg bits high long rest others : ℕ) → e ≡ from + tg + bits → from ≤ high → bits ≤ long → e ≤ high + (tg + long + rest) + others
        at_first e from tg bits high long rest others is low most = omega arith

    count_most : (round k : ℕ) → (grown delay wake hands table.sg (first ∷ others) round).count k ≤ round
    count_most zero k = omega arith
    count_most (suc round) k =
        let g : Growth = grown delay wake hands table.sg (first ∷ others) round in
        one_more (g.count k) round (list_any (λ (s : Sender). s.number == k) (members delay wake hands g.count (first ∷ others) g.from)) (count_most round k)
      where
        one_more : (c r : ℕ) (v : Bool) → c ≤ r → c + cond v 1 0 ≤ suc r
        one_more c r true h = omega arith
        one_more c r false h = omega arith

    -- the first counts in the next round from a longest cycle later at most, and the delays
    next_from : (round : ℕ) → round < n
        → (grown delay wake hands table.sg (first ∷ others) (suc round)).from first.number
        ≤ (grown delay wake hands table.sg (first ∷ others) round).from first.number + cycle longest (first ∷ others) + length (first ∷ others) * spread + table.sg
    next_from round less =
        let g : Growth = grown delay wake hands table.sg (first ∷ others) round in
        let left : (a : Sender) → In a table.senders → g.count a.number < n = λ a i. let k : g.count a.number ≤ round = count_most round a.number in omega arith in
        let so = round_within g.count g.from (g.from first.number) left (omega arith) in
        omega (arith, so.heard first (there first (inl refl)))

    -- who isn't in a round hears its first transmission begin before it wakes
    not_before : (round : ℕ) (b : Sender) → In b (first ∷ others)
        → (In b (members delay wake hands (grown delay wake hands table.sg (first ∷ others) round).count (first ∷ others) (grown delay wake hands table.sg (first ∷ others) round).from) → ⊥)
        → (grown delay wake hands table.sg (first ∷ others) round).from first.number < wake b.number
    not_before round b (inl is) out = absurd (out (inl is))
    not_before round b (inr i) out =
        let g : Growth = grown delay wake hands table.sg (first ∷ others) round in
        let x : Entry = sends hands (g.count first.number) first (g.from first.number + first.tg) in
        elim (cases_lt (g.from first.number + first.tg + delay x b.number) (wake b.number)) [
          | inl asleep ↦ omega arith
          | inr hears ↦ absurd (out (inr (in_filter (hears_awake delay wake x) others b i (le-leb (wake b.number) (g.from first.number + first.tg + delay x b.number) hears))))
        ]

    abbrev turns_in : ℕ → List Entry
    turns_in round = grow_turns delay hands (grown delay wake hands table.sg (first ∷ others) round).count
        (members delay wake hands (grown delay wake hands table.sg (first ∷ others) round).count (first ∷ others) (grown delay wake hands table.sg (first ∷ others) round).from)
        (grown delay wake hands table.sg (first ∷ others) round).from

    pub soon : (round : ℕ) (b : Sender) (x : Entry) → round < n → In b (first ∷ others) → wake first.number ≤ wake b.number + length (first ∷ others) * spread
        → IsNewIn (λ r. members delay wake hands (grown delay wake hands table.sg (first ∷ others) r).count (first ∷ others) (grown delay wake hands table.sg (first ∷ others) r).from) round b
        → In x (turns_in round)
        → end_of x ≤ wake b.number + 2 * (cycle longest (first ∷ others) + length (first ∷ others) * spread) + table.sg
    soon zero b x less b_in early new i =
        let left : (a : Sender) → In a table.senders → 0 < n = λ a j. less in
        let so = round_within (λ _. 0) wake (wake first.number) left (omega arith) in
        at_first (end_of x) (wake first.number) (wake b.number) (cycle longest (first ∷ others)) (length (first ∷ others) * spread) table.sg (so.ends x i) early
      where
        at_first : (e f w c d sg : ℕ) → e ≤ f + c + d → f ≤ w + d → e ≤ w + 2 * (c + d) + sg
        at_first e f w c d sg h k = omega arith
    soon (suc round) b x less b_in early new i =
        let g : Growth = grown delay wake hands table.sg (first ∷ others) (suc round) in
        let left : (a : Sender) → In a table.senders → g.count a.number < n = λ a j. let k : g.count a.number ≤ suc round = count_most (suc round) a.number in omega arith in
        let so = round_within g.count g.from (g.from first.number) left (omega arith) in
        at_next (end_of x) (g.from first.number) ((grown delay wake hands table.sg (first ∷ others) round).from first.number) (wake b.number) (cycle longest (first ∷ others)) (length (first ∷ others) * spread) table.sg
        (so.ends x i) (next_from round (omega arith)) (not_before round b b_in new)
      where
        at_next : (e f before w c d sg : ℕ) → e ≤ f + c + d → f ≤ before + c + d + sg → before < w → e ≤ w + 2 * (c + d) + sg
        at_next e f before w c d sg h k l = omega arith

-- by how much a delay is longer than another at most, and what it adds to a cycle
record HasLag (table : Table) (most : ℕ) (delay : Delays) : Type 0 where
  spread : ℕ
  lags : (a b : Sender) (x : Entry) → In a table.senders → In b table.senders → x.terminal ≡ a.number → delay x b.number ≤ spread
  whole : length (turn_order table) * spread ≡ cycle_delay table most
  either : (length table.senders ≡ 1) ⊎ (spread ≡ most)

lag_of : (table : Table) (most : ℕ) (delay : Delays) → AreDelays most (sender_numbers table) delay → HasLag table most delay
lag_of table most delay delays = elim (cases_eq (length table.senders) 1) [
  | inl one ↦ record {
    spread = 0;
    lags = λ a b x i j own.
        let same : x.terminal ≡ b.number = own ∙ ap (λ (s : Sender). s.number) (only_one table.senders one a b i j) in
        let none : delay x b.number ≡ 0 = ap (delay x) (sym same) ∙ delays.own x in
        omega arith;
    whole = none_at_all (length (turn_order table)) ∙ sym (ap (λ b. cond b 0 (length table.senders * most)) (eq-eqb (length table.senders) 1 one));
    either = inl one;
  }
  | inr many ↦ record {
    spread = most;
    lags = λ a b x i j own. hears_sender most table delay delays x a b i j own;
    whole = ap (λ k. k * most) (length-sort (turn_key table.mode) table.senders) ∙ sym (ap (λ b. cond b 0 (length table.senders * most)) (ne_eqb (length table.senders) 1 many));
    either = inr refl;
  }
]
  where
    none_at_all : (k : ℕ) → k * 0 ≡ 0
    none_at_all k = omega arith

pub joiners_come_soon : JoinersComeSoon
joiners_come_soon table hands most delay wake round sender x valid even less delays awake there new in_turn own = go (turn_order table) refl
  where
    go : (order : List Sender) → turn_order table ≡ order → x.moment < wake sender.number + 2 * (most_cycle table + cycle_delay table most)
    go [] is = absurd (omega (arith, ap length is, length-sort (turn_key table.mode) table.senders, (valid_facts table valid).some))
    go (first ∷ others) is =
        let messages : ℕ → List Message = messages_of hands in
        let setting : Setting table messages (rounds hands) = setting_of table hands valid even in
        let lag : HasLag table most delay = lag_of table most delay delays in
        let of_order : (a : Sender) → In a (first ∷ others) → In a table.senders = λ a i. from_sort (turn_key table.mode) table.senders a (subst (λ o. In a o) (sym is) i) in
        let in_order : In sender (first ∷ others) = subst (λ o. In sender o) is (in_sort (turn_key table.mode) table.senders sender there) in
        let whole : length (first ∷ others) * lag.spread ≡ cycle_delay table most = ap (λ o. length o * lag.spread) (sym is) ∙ lag.whole in
        let early : wake first.number ≤ wake sender.number + length (first ∷ others) * lag.spread = elim in_order [
          | inl same ↦ let e : wake sender.number ≡ wake first.number = ap (λ (s : Sender). wake s.number) same in omega arith
          | inr other ↦
              let k : wake first.number ≤ wake sender.number + most = subst (IsFirstAwake most wake) is awake sender other in
              elim lag.either [
                | inl one ↦ absurd (alone others other (omega (arith, ap length is, length-sort (turn_key table.mode) table.senders, one)))
                | inr same ↦ one_or_more (wake first.number) (wake sender.number) most lag.spread (length others) k same
              ]
        ] in
        let new_there = subst (λ o. IsNewIn (λ r. members delay wake messages (grown delay wake messages table.sg o r).count o (grown delay wake messages table.sg o r).from) round sender) is new in
        let turn_there = subst (λ o. In x (grow_turns delay messages (grown delay wake messages table.sg o round).count
        (members delay wake messages (grown delay wake messages table.sg o round).count o (grown delay wake messages table.sg o round).from) (grown delay wake messages table.sg o round).from)) is in_turn in
        let so : end_of x ≤ wake sender.number + 2 * (cycle longest (first ∷ others) + length (first ∷ others) * lag.spread) + table.sg =
        soon table messages (rounds hands) setting delay wake lag.spread lag.lags first others of_order round sender x less in_order early new_there turn_there in
        let cycles : table.sg + cycle longest (first ∷ others) ≡ most_cycle table =
        ap (λ o. table.sg + cycle longest o) (sym is) ∙ ap (λ c. table.sg + c) (cycle_sort longest (turn_key table.mode) table.senders ∙ sym (cycle_sum longest table.senders)) in
        let sg : 9 ≤ table.sg = (valid_facts table valid).sg_least in
        close x.moment (end_of x) (wake sender.number) (cycle longest (first ∷ others)) (length (first ∷ others) * lag.spread) table.sg (most_cycle table) (cycle_delay table most) so (omega arith) cycles whole sg
      where
        alone : (xs : List Sender) → In sender xs → suc (length xs) ≡ 1 → ⊥
        alone [] i e = i
        alone (y ∷ ys) i e = omega arith

        one_or_more : (f w most spread k : ℕ) → f ≤ w + most → spread ≡ most → f ≤ w + suc k * spread
        one_or_more f w most spread k h e = omega arith

        close : (m e w c d sg most all : ℕ) → e ≤ w + 2 * (c + d) + sg → m ≤ e → sg + c ≡ most → d ≡ all → 9 ≤ sg → m < w + 2 * (most + all)
        close m e w c d sg most all h k p r s = omega arith
