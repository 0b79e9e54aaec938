-- Where a table doesn't bear delays there are places on a cable, and wakes, with which the closed schedule fails.
use Rattle.std.proofs.Common.{◌≡◌, ◌≢◌, ℕ, ◌+◌, ◌*◌, ◌<◌, ◌≤◌, Bool, false, ◌&&◌, ◌||◌, List, [], ◌∷◌, ◌++◌, length, inl, inr, arith, sym, refl, ap, ◌∙◌, subst}
use Rattle.std.specs.Prelude.{◌==◌, if◌then◌else◌, nat_le}
use Rattle.std.specs.List.{list_all}
use Rattle.std.proofs.lemmas.Bool.{eq-eqb, ne_eqb, cases_eq, cases_Bool, true≢false, or_parts, and_cases, leb-false, ltb-false}
use Rattle.bus_strings.specs.Members.{In}
use Rattle.bus_strings.proofs.MemberLaws.{in_append_cases, in_append_left, in_append_right}
use Rattle.bus_strings.specs.Messages.{Message, Entry}
use Rattle.bus_strings.specs.Marking.{greatest_end}
use Rattle.bus_strings.specs.Transmissions.{end_of}
use Rattle.bus_table.specs.declared.mode.Mode.TheVariants.{Aperiodic}
use Rattle.bus_table.specs.Tables.{Sender, Table}
use Rattle.bus_table.specs.inside.Facts.{SenderFacts, TableFacts}
use Rattle.bus_table.specs.Lengths.{shortest}
use Rattle.bus_table.specs.Turns.{turn_key, turn_order}
use Rattle.bus_table.specs.inside.Orders.{Rises}
use Rattle.bus_table.proofs.TurnLaws.{of_each, from_sort, in_sort, length-sort, order_rises, behind_rises, numbers_differ}
use Rattle.bus_table.proofs.ValidLaws.{valid_facts}
use Rattle.bus_medium.specs.Timings.{quiet_of}
use Rattle.bus_regime.proofs.VerdictLaws.{accepted_cycle}
use Rattle.bus_schedule.specs.Closed.{sends}
use Rattle.bus_schedule.specs.Even.{messages_of, rounds}
use Rattle.bus_medium.specs.Delays.{Delays, heard_end}
use Rattle.bus_medium.specs.CableLawful.{IsLawfulOnCable}
use Rattle.bus_reach.specs.Laws.{ToleranceIsExact}
use Rattle.bus_reach.specs.Schedule.{cable_heard, cable_rounds, cable_closed}
use Rattle.bus_reach.specs.Tolerance.{is_apart, leaves_room}
use Rattle.bus_medium.specs.Delays.{cable}
use Rattle.bus_schedule.proofs.Growing.{Setting, sendable}
use Rattle.bus_schedule.proofs.RunLemmas.{setting_of, dealt}
use Rattle.bus_schedule.proofs.LiveLemmas.{stations_of_dealt}
use Rattle.bus_reach.proofs.Modes.{in_aperiodic}
use Rattle.bus_reach.proofs.Failing.{heard_behind, near_fails, late_fails, end_fails}
use Rattle.bus_schedule.proofs.HandLemmas.{stations, quiet_is}
use Rattle.bus_schedule.proofs.Orders.{rises_before, rises_after, same_sender}
use Rattle.bus_medium.specs.CableLawful.{IsLawfulOnCable}
use Rattle.bus_schedule.proofs.Spacing.{cycle, cycle_sum, cycle_sort, lengths, LeadsMore, lead_more}
use Rattle.bus_schedule.proofs.Turning.{cycle_middle}

-- one place, and all others at the beginning of the cable
abbrev only_at : ℕ → ℕ → ℕ → ℕ
only_at number d k = if k == number then d else 0

at_place : (number d k : ℕ) → k ≡ number → only_at number d k ≡ d
at_place number d k e = rw (eq-eqb k number e) refl

off_place : (number d k : ℕ) → k ≢ number → only_at number d k ≡ 0
off_place number d k e = rw (ne_eqb k number e) refl

place_most : (number d k : ℕ) → only_at number d k ≤ d
place_most number d k = elim (cases_eq k number) [ inl here ↦ omega (arith, at_place number d k here) | inr off ↦ omega (arith, off_place number d k off) ]

cable_own : (place : ℕ → ℕ) (x : Entry) → cable place x x.terminal ≡ 0
cable_own place x = omega arith

-- two that are both elsewhere hear one another at once
cable_off : (number d : ℕ) (x : Entry) (k : ℕ) → x.terminal ≢ number → k ≢ number → cable (only_at number d) x k ≡ 0
cable_off number d x k a b = omega (arith, off_place number d x.terminal a, off_place number d k b)

-- one that is there, and one that is elsewhere, so much later
cable_from : (number d : ℕ) (x : Entry) (k : ℕ) → x.terminal ≡ number → k ≢ number → cable (only_at number d) x k ≡ d
cable_from number d x k a b = omega (arith, at_place number d x.terminal a, off_place number d k b)

cable_to : (number d : ℕ) (x : Entry) (k : ℕ) → x.terminal ≢ number → k ≡ number → cable (only_at number d) x k ≡ d
cable_to number d x k a b = omega (arith, off_place number d x.terminal a, at_place number d k b)

-- the one that is there counts from so much later than another, along turns of others
far_from : (number d : ℕ) (messages : ℕ → List Message) (order : List Sender) (from : ℕ → ℕ) (k : ℕ) → k ≢ number → ((b : Sender) → In b order → b.number ≢ number)
    → from number ≡ from k + d → cable_heard (cable (only_at number d)) messages 0 order from number ≡ cable_heard (cable (only_at number d)) messages 0 order from k + d
far_from number d messages [] from k off others h = h
far_from number d messages (b ∷ order) from k off others h =
    let x : Entry = sends messages 0 b (from b.number + b.tg) in
    let apart : b.number ≢ number = others b (inl refl) in
    far_from number d messages order (heard_end (cable (only_at number d)) (sends messages 0 b (from b.number + b.tg))) k off (λ c i. others c (inr i))
    (omega (arith, cable_to number d (sends messages 0 b (from b.number + b.tg)) number apart refl, cable_off number d (sends messages 0 b (from b.number + b.tg)) k apart off))

-- turns take no less than their messages
heard_long : (delay : Delays) (messages : ℕ → List Message) (order : List Sender) (from : ℕ → ℕ) (lo : ℕ) → ((k : ℕ) → lo ≤ from k) → (k : ℕ)
    → lo + cycle (lengths messages 0) order ≤ cable_heard delay messages 0 order from k
heard_long delay messages [] from lo h k = let w : lo ≤ from k = h k in omega arith
heard_long delay messages (b ∷ order) from lo h k =
    let w : lo ≤ from b.number = h b.number in
    let so = heard_long delay messages order (heard_end delay (sends messages 0 b (from b.number + b.tg))) (lo + b.tg + lengths messages 0 b) (λ m. omega arith) k in
    omega (arith, so)

-- an element of a list, and those before and behind it
split_in : (xs : List Sender) (a : Sender) → In a xs → (pre : List Sender) × (post : List Sender) × (xs ≡ pre ++ a ∷ post)
split_in [] a i = absurd i
split_in (x ∷ xs) a (inl same) = ([], xs, ap (λ y. y ∷ xs) (sym same))
split_in (x ∷ xs) a (inr i) = let so = split_in xs a i in (x ∷ so.0, so.1, ap (λ ys. x ∷ ys) so.2)

split_last : (x : Sender) (xs : List Sender) → (front : List Sender) × (l : Sender) × (x ∷ xs ≡ front ++ l ∷ [])
split_last x [] = ([], x, refl)
split_last x (y ∷ ys) = let so = split_last y ys in (x ∷ so.0, so.1, ap (λ zs. x ∷ zs) so.2)

behind_at : (pre : List Sender) (b z : Sender) (post : List Sender) (c : Sender) → Rises (λ v. v.tg) (pre ++ b ∷ z ∷ post) → In c post → z.tg < c.tg
behind_at [] b z post c r j = behind_rises (λ v. v.tg) z post c r.1.0 j
behind_at (p ∷ pre) b z post c r j = behind_at pre b z post c r.1 j

-- a test that not all pass
one_fails : (p : Sender → Bool) (xs : List Sender) → list_all p xs ≡ false → (x : Sender) × In x xs × (p x ≡ false)
one_fails p [] h = absurd (true≢false h)
one_fails p (x ∷ xs) h = elim (cases_Bool (p x)) [
  | inl yes' ↦ let so = one_fails p xs (sym (ap (λ b. b && list_all p xs) yes') ∙ h) in (so.0, inr so.1, so.2)
  | inr no' ↦ (x, inl refl, no')
]

module _ (table : Table) (facts : TableFacts table) (mode : table.mode ≡ Aperiodic) (long : table.ti ≤ table.sg + cycle shortest (turn_order table)) (d : ℕ) where
  -- what is left to show: with these places and wakes, whatever the hands are, no list that the rule makes is the schedule
  record Broken : Type 0 where
    place : ℕ → ℕ
    wake : ℕ → ℕ
    places : (k : ℕ) → place k ≤ d
    wakes : (k : ℕ) → wake k ≤ d
    fails : (hands : ℕ → List Message) (n : ℕ) → Setting table hands n → 1 < n
        → IsLawfulOnCable table.sg (cable place) wake (stations table hands) (greatest_end (cable_rounds (cable place) wake hands table.sg (turn_order table) n))
        (cable_rounds (cable place) wake hands table.sg (turn_order table) n) → ⊥

  rises : Rises (λ b. b.tg) (turn_order table)
  rises = subst (λ m. Rises (turn_key m) (turn_order table)) mode (order_rises table facts)

  of_order : (b : Sender) → In b (turn_order table) → In b table.senders
  of_order b i = from_sort (turn_key table.mode) table.senders b i

  facts_of : (b : Sender) → In b table.senders → SenderFacts table b
  facts_of b i = of_each (SenderFacts table) table.senders facts.senders b i

  -- senders with other terminal gaps have other numbers
  apart : (a b : Sender) → In a table.senders → In b table.senders → a.tg < b.tg → a.number ≢ b.number
  apart a b i j less e =
      let same : a ≡ b = same_sender (λ c. c.number) table.senders a b (numbers_differ table facts) i j e in
      let tg : a.tg ≡ b.tg = ap (λ (c : Sender). c.tg) same in
      omega arith

  -- two neighbours
  near : (pre post : List Sender) (a c : Sender) → turn_order table ≡ pre ++ a ∷ c ∷ post → c.tg ≤ a.tg + 2 * d → Broken
  near pre post a c split close =
      let up : Rises (λ b. b.tg) (pre ++ a ∷ c ∷ post) = subst (λ o. Rises (λ b. b.tg) o) split rises in
      let within : (b : Sender) → In b (pre ++ a ∷ c ∷ post) → In b table.senders = λ b i. of_order b (subst (λ o. In b o) (sym split) i) in
      let a_in : In a table.senders = within a (in_append_right pre (a ∷ c ∷ post) a (inl refl)) in
      let c_in : In c table.senders = within c (in_append_right pre (a ∷ c ∷ post) c (inr (inl refl))) in
      let less : a.tg < c.tg = rises_after (λ b. b.tg) pre a (c ∷ post) c up (inl refl) in
      let off_a : c.number ≢ a.number = λ e. apart a c a_in c_in less (sym e) in
      let pre_in : (b : Sender) → In b pre → In b table.senders = λ b i. within b (in_append_left pre (a ∷ c ∷ post) b i) in
      let before : (b : Sender) → In b pre → b.tg < a.tg = λ b i. rises_before (λ b. b.tg) pre a (c ∷ post) b up i in
      let pre_a : (b : Sender) → In b pre → b.number ≢ a.number = λ b i. apart b a (pre_in b i) a_in (before b i) in
      let pre_c : (b : Sender) → In b pre → b.number ≢ c.number = λ b i. apart b c (pre_in b i) c_in (let k : b.tg < a.tg = before b i in omega arith) in
      record {
        place = only_at a.number d;
        wake = only_at a.number d;
        places = place_most a.number d;
        wakes = place_most a.number d;
        fails = λ hands n setting more.
            let far : cable_heard (cable (only_at a.number d)) hands 0 pre (only_at a.number d) a.number ≡ cable_heard (cable (only_at a.number d)) hands 0 pre (only_at a.number d) c.number + d =
            far_from a.number d hands pre (only_at a.number d) c.number off_a pre_a (omega (arith, at_place a.number d a.number refl, off_place a.number d c.number off_a)) in
            let lag : cable (only_at a.number d) (sends hands 0 a (cable_heard (cable (only_at a.number d)) hands 0 pre (only_at a.number d) a.number + a.tg)) c.number ≡ d =
            cable_from a.number d (sends hands 0 a (cable_heard (cable (only_at a.number d)) hands 0 pre (only_at a.number d) a.number + a.tg)) c.number refl off_a in
            near_fails table hands n setting mode (cable (only_at a.number d)) (only_at a.number d) (cable_own (only_at a.number d)) pre post a c (omega arith) split a_in c_in
            (λ e. off_a (sym e))
            (record {
              there = pre_in;
              apart = pre_c;
              same = λ b i. off_place a.number d b.number (pre_a b i) ∙ sym (off_place a.number d c.number off_a);
              heard = λ b y i own. cable_off a.number d y c.number (λ e. pre_a b i (sym own ∙ e)) off_a;
              others = λ b g y i j own. cable_off a.number d y g.number (λ e. pre_a b i (sym own ∙ e)) (pre_a g j);
            })
            (off_place a.number d c.number off_a) (omega arith) (omega arith);
      }

  -- the second sender misses the first
  late : (post : List Sender) (f g : Sender) → turn_order table ≡ f ∷ g ∷ post → f.tg < d → Broken
  late post f g split few =
      let up : Rises (λ b. b.tg) (f ∷ g ∷ post) = subst (λ o. Rises (λ b. b.tg) o) split rises in
      let f_in : In f table.senders = of_order f (subst (λ o. In f o) (sym split) (inl refl)) in
      let g_in : In g table.senders = of_order g (subst (λ o. In g o) (sym split) (inr (inl refl))) in
      let less : f.tg < g.tg = up.0.0 in
      let short : f.tg < table.sg = (facts_of f f_in).tg_short in
      let off : f.number ≢ g.number = apart f g f_in g_in less in
      record {
        place = λ _. 0;
        wake = only_at g.number (f.tg + 1);
        places = λ k. omega arith;
        wakes = λ k. omega (arith, place_most g.number (f.tg + 1) k);
        fails = λ hands n setting more.
            late_fails table hands n setting mode (cable (λ _. 0)) (only_at g.number (f.tg + 1)) (cable_own (λ _. 0)) post f g (omega arith) split f_in g_in off
            (omega (arith, off_place g.number (f.tg + 1) f.number off, at_place g.number (f.tg + 1) g.number refl));
      }

  -- the last sender outlasts the synchronization gap of the first
  last : (mid : List Sender) (f l : Sender) → turn_order table ≡ f ∷ (mid ++ l ∷ []) → table.sg ≤ l.tg + 2 * d → Broken
  last mid f l split close =
      let within : (b : Sender) → In b (f ∷ (mid ++ l ∷ [])) → In b table.senders = λ b i. of_order b (subst (λ o. In b o) (sym split) i) in
      let up : Rises (λ b. b.tg) (f ∷ (mid ++ l ∷ [])) = subst (λ o. Rises (λ b. b.tg) o) split rises in
      let f_in : In f table.senders = within f (inl refl) in
      let l_in : In l table.senders = within l (inr (in_append_right mid (l ∷ []) l (inl refl))) in
      let mid_in : (b : Sender) → In b mid → In b table.senders = λ b i. within b (inr (in_append_left mid (l ∷ []) b i)) in
      let f_l : f.number ≢ l.number = apart f l f_in l_in (behind_rises (λ b. b.tg) f (mid ++ l ∷ []) l up.0 (in_append_right mid (l ∷ []) l (inl refl))) in
      let f_mid : (b : Sender) → In b mid → f.number ≢ b.number = λ b i. apart f b f_in (mid_in b i) (behind_rises (λ b. b.tg) f (mid ++ l ∷ []) b up.0 (in_append_left mid (l ∷ []) b i)) in
      let mid_l : (b : Sender) → In b mid → b.number ≢ l.number = λ b i. apart b l (mid_in b i) l_in (rises_before (λ b. b.tg) mid l [] b up.1 i) in
      let short : l.tg < table.sg = (facts_of l l_in).tg_short in
      record {
        place = only_at l.number d;
        wake = λ _. 0;
        places = place_most l.number d;
        wakes = λ k. omega arith;
        fails = λ hands n setting more.
            let some : 0 < n = omega arith in
            let x : Entry = sends hands 0 f (0 + f.tg) in
            let far : heard_behind (cable (only_at l.number d)) hands (λ _. 0) f mid l.number ≡ heard_behind (cable (only_at l.number d)) hands (λ _. 0) f mid f.number + d =
            far_from l.number d hands mid (heard_end (cable (only_at l.number d)) (sends hands 0 f (0 + f.tg))) f.number f_l mid_l
            (omega (arith, cable_to l.number d (sends hands 0 f (0 + f.tg)) l.number f_l refl, cable_off l.number d (sends hands 0 f (0 + f.tg)) f.number f_l f_l)) in
            let lag : cable (only_at l.number d) (sends hands 0 l (heard_behind (cable (only_at l.number d)) hands (λ _. 0) f mid l.number + l.tg)) f.number ≡ d =
            cable_from l.number d (sends hands 0 l (heard_behind (cable (only_at l.number d)) hands (λ _. 0) f mid l.number + l.tg)) f.number refl f_l in
            let whole : cycle (lengths hands 0) (turn_order table) ≡ f.tg + lengths hands 0 f + (cycle (lengths hands 0) mid + (l.tg + lengths hands 0 l) + 0) =
            ap (cycle (lengths hands 0)) split ∙ ap (λ v. f.tg + lengths hands 0 f + v) (cycle_middle (lengths hands 0) mid l []) in
            let no_less : LeadsMore shortest (lengths hands 0) (turn_order table) 0 = lead_more shortest (lengths hands 0) (turn_order table) 0
            (λ b i. (sendable table hands n setting b 0 (of_order b i) some).least) in
            let taken = heard_long (cable (only_at l.number d)) hands mid (heard_end (cable (only_at l.number d)) (sends hands 0 f (0 + f.tg))) (f.tg + lengths hands 0 f) (λ k. omega arith) f.number in
            end_fails table hands n setting mode (cable (only_at l.number d)) (λ _. 0) (cable_own (only_at l.number d)) mid f l more split f_in l_in (λ e. f_l (sym e))
            (record {
              there = mid_in;
              apart = λ b i e. f_mid b i (sym e);
              same = λ b i. ap (λ v. end_of x + v) (cable_off l.number d x b.number f_l (mid_l b i) ∙ sym (cable_off l.number d x f.number f_l f_l));
              heard = λ b y i own. cable_off l.number d y f.number (λ e. mid_l b i (sym own ∙ e)) f_l;
              others = λ b g y i j own. cable_off l.number d y g.number (λ e. mid_l b i (sym own ∙ e)) (mid_l g j);
            })
            (omega arith) (omega (arith, no_less.whole));
      }

  -- one of these is there
  broken : (first : Sender) (rest : List Sender) → turn_order table ≡ first ∷ rest → 0 < length rest → (a : Sender) → In a table.senders
      → leaves_room d table.sg table.senders a ≡ false → Broken
  broken first [] split several a i h = absurd (omega arith)
  broken first (second ∷ rest) split several a i h =
      let in_order : In a (turn_order table) = in_sort (turn_key table.mode) table.senders a i in
      let up : Rises (λ b. b.tg) (first ∷ second ∷ rest) = subst (λ o. Rises (λ b. b.tg) o) split rises in
      elim (and_cases (nat_le d a.tg) (is_apart d a.tg table.sg && list_all (λ b. nat_le b.tg a.tg || is_apart d a.tg b.tg) table.senders) h) [
        | inl small ↦
            let few : a.tg < d = leb-false d a.tg small in
            let no_more : first.tg ≤ a.tg = elim (subst (λ o. In a o) split in_order) [
              | inl is ↦ let e : a.tg ≡ first.tg = ap (λ (c : Sender). c.tg) is in omega arith
              | inr behind ↦ let k : first.tg < a.tg = behind_rises (λ b. b.tg) first (second ∷ rest) a up.0 behind in omega arith
            ] in
            late rest first second split (omega arith)
        | inr other ↦ elim (and_cases (is_apart d a.tg table.sg) (list_all (λ b. nat_le b.tg a.tg || is_apart d a.tg b.tg) table.senders) other) [
          | inl wide ↦
              let close : table.sg ≤ a.tg + 2 * d = ltb-false (a.tg + 2 * d) table.sg wide in
              let so = split_last second rest in
              let whole : turn_order table ≡ first ∷ (so.0 ++ so.1 ∷ []) = split ∙ ap (λ o. first ∷ o) so.2 in
              let no_more : a.tg ≤ so.1.tg = at_most (first ∷ so.0) so.1 a (subst (λ o. Rises (λ b. b.tg) o) whole rises) (subst (λ o. In a o) whole in_order) in
              last so.0 first so.1 whole (omega arith)
          | inr beside ↦
              let f = one_fails (λ b. nat_le b.tg a.tg || is_apart d a.tg b.tg) table.senders beside in
              let both = or_parts (nat_le f.0.tg a.tg) (is_apart d a.tg f.0.tg) f.2 in
              let longer : a.tg < f.0.tg = leb-false f.0.tg a.tg both.0 in
              let close : f.0.tg ≤ a.tg + 2 * d = ltb-false (a.tg + 2 * d) f.0.tg both.1 in
              let so = split_in (turn_order table) a in_order in
              next so.0 a so.1 f.0 so.2 (subst (λ o. In f.0 o) so.2 (in_sort (turn_key table.mode) table.senders f.0 f.1)) longer close
        ]
      ]
    where
      at_most : (front : List Sender) (l b : Sender) → Rises (λ c. c.tg) (front ++ l ∷ []) → In b (front ++ l ∷ []) → b.tg ≤ l.tg
      at_most front l b r j = elim (in_append_cases front (l ∷ []) b j) [
        | inl before ↦ let k : b.tg < l.tg = rises_before (λ c. c.tg) front l [] b r before in omega arith
        | inr now ↦ elim now [ inl is ↦ (let e : b.tg ≡ l.tg = ap (λ (c : Sender). c.tg) is in omega arith) | inr nothing ↦ absurd nothing ]
      ]

      next : (pre : List Sender) (b : Sender) (post : List Sender) (c : Sender) → turn_order table ≡ pre ++ b ∷ post → In c (pre ++ b ∷ post) → b.tg < c.tg → c.tg ≤ b.tg + 2 * d → Broken
      next pre b [] c is j longer close =
          elim (in_append_cases pre (b ∷ []) c j) [
            | inl before ↦ let k : c.tg < b.tg = rises_before (λ z. z.tg) pre b [] c (subst (λ o. Rises (λ z. z.tg) o) is rises) before in absurd (omega arith)
            | inr now ↦ elim now [ inl same ↦ (let e : c.tg ≡ b.tg = ap (λ (z : Sender). z.tg) same in absurd (omega arith)) | inr nothing ↦ absurd nothing ]
          ]
      next pre b (z ∷ post) c is j longer close =
          let order_up : Rises (λ v. v.tg) (pre ++ b ∷ z ∷ post) = subst (λ o. Rises (λ v. v.tg) o) is rises in
          let no_more : z.tg ≤ c.tg = elim (in_append_cases pre (b ∷ z ∷ post) c j) [
            | inl before ↦ let k : c.tg < b.tg = rises_before (λ v. v.tg) pre b (z ∷ post) c order_up before in absurd (omega arith)
            | inr now ↦ elim now [
              | inl same ↦ let e : c.tg ≡ b.tg = ap (λ (v : Sender). v.tg) same in absurd (omega arith)
              | inr later ↦ elim later [
                | inl same ↦ let e : c.tg ≡ z.tg = ap (λ (v : Sender). v.tg) same in omega arith
                | inr behind ↦ let k : z.tg < c.tg = behind_at pre b z post c order_up behind in omega arith
              ]
            ]
          ] in
          near pre post b z is (omega arith)

pub tolerance_is_exact : ToleranceIsExact
tolerance_is_exact table d valid mode accepted not_borne =
    let facts : TableFacts table = valid_facts table valid in
    let both = or_parts (length table.senders == 1) (list_all (leaves_room d table.sg table.senders) table.senders) (sym (in_aperiodic table d mode) ∙ not_borne) in
    let bad = one_fails (leaves_room d table.sg table.senders) table.senders both.1 in
    let long : table.ti ≤ table.sg + cycle shortest (turn_order table) =
    subst (λ c. table.ti ≤ table.sg + c) (cycle_sum shortest table.senders ∙ sym (cycle_sort shortest (turn_key table.mode) table.senders)) (accepted_cycle table mode accepted) in
    let not_one : length table.senders ≢ 1 = λ e. true≢false (sym (eq-eqb (length table.senders) 1 e) ∙ both.0) in
    let several : 1 < length (turn_order table) = omega (arith, length-sort (turn_key table.mode) table.senders, facts.some, not_one) in
    let b = found (turn_order table) several (λ first rest is some. broken table facts mode long d first rest is some bad.0 bad.1 bad.2) in
    record {
      place = b.place;
      wake = b.wake;
      places = b.places;
      wakes = λ a i. b.wakes a.number;
      fails = λ hands even two law. b.fails (messages_of hands) (rounds hands) (setting_of table hands valid even) (omega arith)
          (subst (λ q. IsLawfulOnCable q (cable b.place) b.wake (stations table (messages_of hands)) (greatest_end (cable_closed (cable b.place) b.wake table hands)) (cable_closed (cable b.place) b.wake table hands)) (quiet_is table mode)
          (subst (λ ss. IsLawfulOnCable (quiet_of table) (cable b.place) b.wake ss (greatest_end (cable_closed (cable b.place) b.wake table hands)) (cable_closed (cable b.place) b.wake table hands)) (stations_of_dealt table hands valid (dealt table hands even)) law));
    }
  where
    found : {X : Type 0} → (order : List Sender) → 1 < length order → ((first : Sender) (rest : List Sender) → order ≡ first ∷ rest → 0 < length rest → X) → X
    found [] h f = absurd (omega arith)
    found (a ∷ rest) h f = f a rest refl (omega arith)
