-- What becomes of the closed schedule on a cable that is too long: a sender is due where it has no turn, or isn't where it has one.
use Rattle.std.proofs.Common.{◌≡◌, ◌≢◌, ℕ, suc, ◌+◌, ◌-◌, ◌<◌, ◌≤◌, ◌⊎◌, List, [], ◌∷◌, ◌++◌, length, get_or, inl, inr, arith, sym, refl, ap, ◌∙◌, subst}
use Rattle.std.specs.Prelude.{max}
use Rattle.std.proofs.lemmas.Bool.{cases_lt}
use Rattle.std.proofs.lemmas.List.{append_assoc, append-nil}
use Rattle.bus_strings.specs.Members.{In}
use Rattle.bus_strings.proofs.MemberLaws.{in_append_cases, in_append_left, in_append_right, in_map}
use Rattle.bus_strings.specs.Messages.{Message, Entry, bits}
use Rattle.bus_strings.specs.Marking.{greatest_end}
use Rattle.bus_strings.specs.Transmissions.{end_of}
use Rattle.bus_table.specs.declared.mode.Mode.TheVariants.{Aperiodic}
use Rattle.bus_table.specs.Tables.{Sender, Table}
use Rattle.bus_table.specs.Turns.{turn_order}
use Rattle.bus_medium.specs.Lawful.{HasEntry}
use Rattle.bus_schedule.specs.Closed.{sends}
use Rattle.bus_medium.specs.Delays.{Delays, heard_end}
use Rattle.bus_medium.specs.CableLawful.{IsDueOnCable}
use Rattle.bus_reach.specs.Schedule.{cable_turns, cable_heard, cable_origin, cable_rounds}
use Rattle.bus_medium.specs.Clocks.{gap_behind}
use Rattle.bus_medium.proofs.CableClocks.{gap_elapsed, gap_waiting, timers_other, timers_own, timers_not_due, timers_due}
use Rattle.bus_reach.proofs.Knowing.{HasTimers, sender_start}
use Rattle.bus_schedule.proofs.Growing.{Setting, has_left, sendable}
use Rattle.bus_schedule.proofs.Greatest.{ends_within, max_within}
use Rattle.bus_schedule.proofs.HandLemmas.{Sendable, station, stations}
use Rattle.bus_medium.proofs.Hearing.{IsUnheard, due_unheard}
use Rattle.bus_reach.proofs.Beginnings.{turns_first, heard_first, has_tail, is_late, in_round, turns_append, heard_append_turns, turn_terminal}
use Rattle.bus_medium.specs.CableLawful.{IsLawfulOnCable}

-- where each terminal heard the end of these turns behind the first
abbrev pub heard_behind : Delays → (ℕ → List Message) → (ℕ → ℕ) → Sender → List Sender → ℕ → ℕ
heard_behind delay hands wake f mid = cable_heard delay hands 0 mid (heard_end delay (sends hands 0 f (wake f.number + f.tg)))

module _ (table : Table) (hands : ℕ → List Message) (n : ℕ) (setting : Setting table hands n)
    (mode : table.mode ≡ Aperiodic) (delay : Delays) (wake : ℕ → ℕ) (zeros : (x : Entry) → delay x x.terminal ≡ 0) where
  -- the numbers of one sender along turns of others that count with it and that it hears at once: it counts from where each ends
  record Counts (c : Sender) (list : List Entry) (from : ℕ) : Type 0 where
    heard_all : ℕ
    ended : heard_all ≤ from
    timers : HasTimers table hands delay wake c list heard_all (table.sg + wake c.number) (table.sg + from) 0

  -- and where it has spoken: one synchronization gap later
  record Waits (c : Sender) (list : List Entry) (from due_at : ℕ) : Type 0 where
    heard_all : ℕ
    ended : heard_all ≤ from
    gap_from : ℕ
    near : gap_from ≤ table.sg + from + table.sg
    timers : HasTimers table hands delay wake c list heard_all (table.sg + due_at) gap_from 1

  -- turns of others that count from the same moment as this one, and that it and they hear at once
  pub record Level (c : Sender) (order : List Sender) (from : ℕ → ℕ) : Type 0 where
    pub there : (b : Sender) → In b order → In b table.senders
    pub apart : (b : Sender) → In b order → b.number ≢ c.number
    pub same : (b : Sender) → In b order → from b.number ≡ from c.number
    pub heard : (b : Sender) (x : Entry) → In b order → x.terminal ≡ b.number → delay x c.number ≡ 0
    pub others : (b d : Sender) (x : Entry) → In b order → In d order → x.terminal ≡ b.number → delay x d.number ≡ 0

  level_next : (c a : Sender) (order : List Sender) (from : ℕ → ℕ) (x : Entry) → x.terminal ≡ a.number → Level c (a ∷ order) from → Level c order (heard_end delay x)
  level_next c a order from x own l = record {
    there = λ b i. l.there b (inr i);
    apart = λ b i. l.apart b (inr i);
    same = λ b i. ap (λ d. end_of x + d) (l.others a b x (inl refl) (inr i) own ∙ sym (l.heard a x (inl refl) own));
    heard = λ b y i. l.heard b y (inr i);
    others = λ b d y i j. l.others b d y (inr i) (inr j);
  }

  counts_start : (c : Sender) → In c table.senders → Counts c [] (wake c.number)
  counts_start c i = record { heard_all = 0; ended = omega arith; timers = sender_start table hands n setting delay wake c i mode }

  counts_on : (c : Sender) (order : List Sender) (list : List Entry) (from : ℕ → ℕ) → 0 < n → In c table.senders → Level c order from → Counts c list (from c.number)
      → Counts c (list ++ cable_turns delay hands 0 order from) (cable_heard delay hands 0 order from c.number)
  counts_on c [] list from some c_in level k = subst (λ l. Counts c l (from c.number)) (sym (append-nil list)) k
  counts_on c (a ∷ order) list from some c_in level k =
      let x : Entry = sends hands 0 a (from a.number + a.tg) in
      let same : from a.number ≡ from c.number = level.same a (inl refl) in
      let ended : k.heard_all ≤ from c.number = k.ended in
      let message : Sendable a (hands a.number) 0 (get_or (hands a.number) 0 []) = sendable table hands n setting a 0 (level.there a (inl refl)) some in
      let moved : gap_behind table.sg table.sg (wake c.number) (table.sg + from c.number) (from a.number + a.tg + delay (sends hands 0 a (from a.number + a.tg)) c.number) (heard_end delay (sends hands 0 a (from a.number + a.tg)) c.number)
      ≡ table.sg + heard_end delay (sends hands 0 a (from a.number + a.tg)) c.number =
      gap_elapsed table.sg table.sg (wake c.number) (table.sg + from c.number) (from a.number + a.tg + delay (sends hands 0 a (from a.number + a.tg)) c.number) (heard_end delay (sends hands 0 a (from a.number + a.tg)) c.number) (omega arith) in
      let next : Counts c (list ++ sends hands 0 a (from a.number + a.tg) ∷ []) (heard_end delay (sends hands 0 a (from a.number + a.tg)) c.number) = record {
        heard_all = heard_end delay (sends hands 0 a (from a.number + a.tg)) c.number;
        ended = omega arith;
        timers = subst (λ g. HasTimers table hands delay wake c (list ++ sends hands 0 a (from a.number + a.tg) ∷ []) (heard_end delay (sends hands 0 a (from a.number + a.tg)) c.number) (table.sg + wake c.number) g 0) moved
            (timers_other table.sg delay wake (station table hands c) (setting.dealt.sound c c_in) list (sends hands 0 a (from a.number + a.tg)) k.heard_all (table.sg + wake c.number) (table.sg + from c.number) 0 k.timers (omega arith)
            (level.apart a (inl refl)) message.some);
      } in
      subst (λ l. Counts c l (cable_heard delay hands 0 (a ∷ order) from c.number)) (append_assoc list (x ∷ []) (cable_turns delay hands 0 order (heard_end delay x)))
      (counts_on c order (list ++ sends hands 0 a (from a.number + a.tg) ∷ []) (heard_end delay (sends hands 0 a (from a.number + a.tg))) some c_in
      (level_next c a order from (sends hands 0 a (from a.number + a.tg)) refl level) next)

  -- who is due at a moment has an entry there in a lawful list, and an entry of a lawful list is due
  module _ (list : List Entry) (horizon : ℕ) (ruled : IsLawfulOnCable table.sg delay wake (stations table hands) horizon list) where
    has_one : (c : Sender) (t : ℕ) → In c table.senders → t < horizon → IsDueOnCable table.sg delay wake list (station table hands c) t → HasEntry list c.number t
    has_one c t i less d = (ruled.exact t (station table hands c) less (in_map (station table hands) table.senders c i)).1 d

    has_due : (c : Sender) (x : Entry) → In c table.senders → x.moment < horizon → In x list → x.terminal ≡ c.number → IsDueOnCable table.sg delay wake list (station table hands c) x.moment
    has_due c x i less there own =
        (ruled.exact x.moment (station table hands c) less (in_map (station table hands) table.senders c i)).0 (record { entry = x; there = there; moment = refl; terminal = own })

  -- the list begins with a round, and what it begins with
  round_first : (lo : ℕ) → 0 < n → ((k : ℕ) → lo ≤ cable_heard delay hands 0 (turn_order table) wake k)
      → (tail : List Entry) × (cable_rounds delay wake hands table.sg (turn_order table) n ≡ cable_turns delay hands 0 (turn_order table) wake ++ tail) × ((y : Entry) → In y tail → lo ≤ y.moment)
  round_first lo some h =
      let so = is_late delay wake hands table.sg (turn_order table) lo (n - 1) h in
      let e : n ≡ suc (n - 1) = omega arith in
      (so.tail, ap (cable_rounds delay wake hands table.sg (turn_order table)) e ∙ so.is, so.low)

  -- Two neighbours in turn order, of which the second hears the first too late: it has started before.
  pub near_fails : (pre post : List Sender) (a c : Sender) → 0 < n → turn_order table ≡ pre ++ a ∷ c ∷ post → In a table.senders → In c table.senders → a.number ≢ c.number
      → Level c pre wake → wake c.number ≡ 0
      → cable_heard delay hands 0 pre wake c.number + c.tg ≤ cable_heard delay hands 0 pre wake a.number + a.tg + delay (sends hands 0 a (cable_heard delay hands 0 pre wake a.number + a.tg)) c.number
      → cable_heard delay hands 0 pre wake c.number ≤ cable_heard delay hands 0 pre wake a.number
      → IsLawfulOnCable table.sg delay wake (stations table hands) (greatest_end (cable_rounds delay wake hands table.sg (turn_order table) n)) (cable_rounds delay wake hands table.sg (turn_order table) n) → ⊥
  near_fails pre post a c some split a_in c_in apart level awake late low ruled =
      let F : ℕ → ℕ = cable_heard delay hands 0 pre wake in
      let x : Entry = sends hands 0 a (cable_heard delay hands 0 pre wake a.number + a.tg) in
      let H : ℕ → ℕ = heard_end delay x in
      let rest : List Entry = cable_turns delay hands 0 (c ∷ post) H in
      let t : ℕ = cable_heard delay hands 0 pre wake c.number + c.tg in
      let message : Sendable a (hands a.number) 0 (get_or (hands a.number) 0 []) = sendable table hands n setting a 0 a_in some in
      let bit : 0 < bits (get_or (hands a.number) 0 []) = message.some_bits in
      let later : cable_heard delay hands 0 pre wake c.number + c.tg < heard_end delay (sends hands 0 a (cable_heard delay hands 0 pre wake a.number + a.tg)) c.number + c.tg = omega arith in
      let heard : (k : ℕ) → H c.number + c.tg ≤ cable_heard delay hands 0 (turn_order table) wake k = λ k.
      subst (λ v. H c.number + c.tg ≤ v) (sym (ap (λ o. cable_heard delay hands 0 o wake k) split ∙ heard_append_turns delay wake hands table.sg 0 pre (a ∷ c ∷ post) wake k))
      (heard_first delay wake hands table.sg 0 c post H k) in
      let first = round_first (H c.number + c.tg) some heard in
      let round_is : cable_turns delay hands 0 (turn_order table) wake ≡ cable_turns delay hands 0 pre wake ++ (x ∷ rest) =
      ap (λ o. cable_turns delay hands 0 o wake) split ∙ turns_append delay wake hands table.sg 0 pre (a ∷ c ∷ post) wake in
      let list_is : cable_rounds delay wake hands table.sg (turn_order table) n ≡ cable_turns delay hands 0 pre wake ++ ((x ∷ rest) ++ first.0) =
      first.1 ∙ ap (λ l. l ++ first.0) round_is ∙ append_assoc (cable_turns delay hands 0 pre wake) (x ∷ rest) first.0 in
      let behind : (y : Entry) → In y ((x ∷ rest) ++ first.0) → (y ≡ x) ⊎ (H c.number + c.tg ≤ y.moment) = λ y i.
      elim (in_append_cases (x ∷ rest) first.0 y i) [
        | inl now ↦ elim now [
          | inl is ↦ inl is
          | inr next ↦ inr (turns_first delay wake hands table.sg 0 c post H y next)
        ]
        | inr after ↦ inr (first.2 y after)
      ] in
      let unheard : IsUnheard delay c.number (cable_heard delay hands 0 pre wake c.number + c.tg) ((x ∷ rest) ++ first.0) = record {
        heard = λ y i. elim (behind y i) [
          | inl is ↦ subst (λ (v : Entry). cable_heard delay hands 0 pre wake c.number + c.tg ≤ v.moment + delay v c.number) (sym is) late
          | inr more ↦ omega arith
        ];
        own = λ y i own. elim (behind y i) [
          | inl is ↦ absurd (apart (sym (ap (λ (v : Entry). v.terminal) is) ∙ own))
          | inr more ↦ omega arith
        ];
      } in
      let k = counts_on c pre [] wake some c_in level (counts_start c c_in) in
      let ended : k.heard_all ≤ cable_heard delay hands 0 pre wake c.number = k.ended in
      let left : 0 < length (hands c.number) = has_left table hands n setting c 0 c_in some in
      let due : IsDueOnCable table.sg delay wake (cable_turns delay hands 0 pre wake) (station table hands c) (cable_heard delay hands 0 pre wake c.number + c.tg) =
      timers_due table.sg delay wake (station table hands c) (setting.dealt.sound c c_in) (cable_turns delay hands 0 pre wake) k.heard_all (table.sg + wake c.number) (table.sg + cable_heard delay hands 0 pre wake c.number) 0
      (cable_heard delay hands 0 pre wake c.number + c.tg) k.timers (omega arith) (omega arith) (omega arith) left in
      let due_there : IsDueOnCable table.sg delay wake (cable_rounds delay wake hands table.sg (turn_order table) n) (station table hands c) (cable_heard delay hands 0 pre wake c.number + c.tg) =
      subst (λ l. IsDueOnCable table.sg delay wake l (station table hands c) (cable_heard delay hands 0 pre wake c.number + c.tg)) (sym list_is)
      ((due_unheard table.sg delay wake (cable_turns delay hands 0 pre wake) ((x ∷ rest) ++ first.0) (station table hands c) (cable_heard delay hands 0 pre wake c.number + c.tg) unheard).1 due) in
      let own : Entry = sends hands 0 c (H c.number + c.tg) in
      let own_in : In own (cable_rounds delay wake hands table.sg (turn_order table) n) = subst (λ l. In own l) (sym list_is)
      (in_append_right (cable_turns delay hands 0 pre wake) ((x ∷ rest) ++ first.0) own (in_append_left (x ∷ rest) first.0 own (inr (inl refl)))) in
      let ends : end_of own ≤ greatest_end (cable_rounds delay wake hands table.sg (turn_order table) n) = ends_within (cable_rounds delay wake hands table.sg (turn_order table) n) own own_in in
      let has : HasEntry (cable_rounds delay wake hands table.sg (turn_order table) n) c.number (cable_heard delay hands 0 pre wake c.number + c.tg) =
      has_one (cable_rounds delay wake hands table.sg (turn_order table) n) (greatest_end (cable_rounds delay wake hands table.sg (turn_order table) n)) ruled c (cable_heard delay hands 0 pre wake c.number + c.tg) c_in
      (omega arith) due_there in
      let moment : has.entry.moment ≡ cable_heard delay hands 0 pre wake c.number + c.tg = has.moment in
      elim (in_append_cases (cable_turns delay hands 0 pre wake) ((x ∷ rest) ++ first.0) has.entry (subst (λ l. In has.entry l) list_is has.there)) [
        | inl before ↦
            let b = turn_terminal delay wake hands table.sg 0 pre wake has.entry before in
            level.apart b.0 b.1 (sym b.2 ∙ has.terminal)
        | inr now ↦ elim (behind has.entry now) [
          | inl is ↦ apart (sym (ap (λ (v : Entry). v.terminal) is) ∙ has.terminal)
          | inr more ↦ omega arith
        ]
      ]

  -- The second sender is powered up so late that it misses the first message: it isn't due in the first round.
  pub late_fails : (post : List Sender) (f g : Sender) → 0 < n → turn_order table ≡ f ∷ g ∷ post → In f table.senders → In g table.senders → f.number ≢ g.number
      → wake f.number + f.tg + delay (sends hands 0 f (wake f.number + f.tg)) g.number < wake g.number
      → IsLawfulOnCable table.sg delay wake (stations table hands) (greatest_end (cable_rounds delay wake hands table.sg (turn_order table) n)) (cable_rounds delay wake hands table.sg (turn_order table) n) → ⊥
  late_fails post f g some split f_in g_in apart missed ruled =
      let x : Entry = sends hands 0 f (wake f.number + f.tg) in
      let H : ℕ → ℕ = heard_end delay x in
      let rest : List Entry = cable_turns delay hands 0 (g ∷ post) H in
      let own : Entry = sends hands 0 g (heard_end delay (sends hands 0 f (wake f.number + f.tg)) g.number + g.tg) in
      let heard : (k : ℕ) → H g.number + g.tg ≤ cable_heard delay hands 0 (turn_order table) wake k = λ k.
      subst (λ v. H g.number + g.tg ≤ v) (sym (ap (λ o. cable_heard delay hands 0 o wake k) split)) (heard_first delay wake hands table.sg 0 g post H k) in
      let first = round_first (H g.number + g.tg) some heard in
      let list_is : cable_rounds delay wake hands table.sg (turn_order table) n ≡ (x ∷ []) ++ (rest ++ first.0) =
      first.1 ∙ ap (λ o. cable_turns delay hands 0 o wake ++ first.0) split in
      let own_in : In own (cable_rounds delay wake hands table.sg (turn_order table) n) = subst (λ l. In own l) (sym list_is)
      (inr (in_append_left rest first.0 own (inl refl))) in
      let ends : end_of own ≤ greatest_end (cable_rounds delay wake hands table.sg (turn_order table) n) = ends_within (cable_rounds delay wake hands table.sg (turn_order table) n) own own_in in
      let message : Sendable g (hands g.number) 0 (get_or (hands g.number) 0 []) = sendable table hands n setting g 0 g_in some in
      let bit : 0 < bits (get_or (hands g.number) 0 []) = message.some_bits in
      let due : IsDueOnCable table.sg delay wake (cable_rounds delay wake hands table.sg (turn_order table) n) (station table hands g) own.moment =
      has_due (cable_rounds delay wake hands table.sg (turn_order table) n) (greatest_end (cable_rounds delay wake hands table.sg (turn_order table) n)) ruled g own g_in (omega arith) own_in refl in
      let behind : (y : Entry) → In y (rest ++ first.0) → H g.number + g.tg ≤ y.moment = λ y i.
      elim (in_append_cases rest first.0 y i) [
        | inl now ↦ turns_first delay wake hands table.sg 0 g post H y now
        | inr after ↦ first.2 y after
      ] in
      let unheard : IsUnheard delay g.number own.moment (rest ++ first.0) = record {
        heard = λ y i. omega (arith, behind y i);
        own = λ y i own. omega (arith, behind y i);
      } in
      let due_first : IsDueOnCable table.sg delay wake ([] ++ x ∷ []) (station table hands g) own.moment =
      (due_unheard table.sg delay wake (x ∷ []) (rest ++ first.0) (station table hands g) own.moment unheard).0
      (subst (λ l. IsDueOnCable table.sg delay wake l (station table hands g) own.moment) list_is due) in
      let opening : Sendable f (hands f.number) 0 (get_or (hands f.number) 0 []) = sendable table hands n setting f 0 f_in some in
      let start = sender_start table hands n setting delay wake g g_in mode in
      let then = timers_other table.sg delay wake (station table hands g) (setting.dealt.sound g g_in) [] x 0 (table.sg + wake g.number) (table.sg + wake g.number) 0 start (omega arith) apart opening.some in
      timers_not_due table.sg delay wake (station table hands g) (setting.dealt.sound g g_in) ([] ++ x ∷ []) (H g.number) (table.sg + wake g.number)
      (gap_behind table.sg table.sg (wake g.number) (table.sg + wake g.number) (wake f.number + f.tg + delay (sends hands 0 f (wake f.number + f.tg)) g.number) (H g.number)) 0 own.moment then (omega arith)
      (inl (omega (
        arith,
        gap_waiting table.sg table.sg (wake g.number) (table.sg + wake g.number) (wake f.number + f.tg + delay (sends hands 0 f (wake f.number + f.tg)) g.number) (H g.number) (omega arith),
        (max_within (table.sg + H g.number + table.sg) (table.sg + wake g.number)).0,
        setting.dealt.facts.sg_least,
      )))
      due_first

  -- the numbers of the first sender behind its own message
  waits_start : (f : Sender) → 0 < n → In f table.senders
      → Waits f ([] ++ sends hands 0 f (wake f.number + f.tg) ∷ []) (heard_end delay (sends hands 0 f (wake f.number + f.tg)) f.number) (wake f.number + f.tg + table.ti)
  waits_start f some f_in =
      let message : Sendable f (hands f.number) 0 (get_or (hands f.number) 0 []) = sendable table hands n setting f 0 f_in some in
      let x : Entry = sends hands 0 f (wake f.number + f.tg) in
      record {
        heard_all = heard_end delay (sends hands 0 f (wake f.number + f.tg)) f.number;
        ended = omega arith;
        gap_from = table.sg + heard_end delay (sends hands 0 f (wake f.number + f.tg)) f.number + table.sg;
        near = omega arith;
        timers = subst (λ d. HasTimers table hands delay wake f ([] ++ x ∷ []) (heard_end delay x f.number) d (table.sg + heard_end delay x f.number + table.sg) 1)
            (let e : table.sg + (wake f.number + f.tg) + table.ti ≡ table.sg + (wake f.number + f.tg + table.ti) = omega arith in e)
            (timers_own table.sg delay wake (station table hands f) (setting.dealt.sound f f_in) [] x 0 (table.sg + wake f.number) (table.sg + wake f.number) 0 (sender_start table hands n setting delay wake f f_in mode)
            (omega arith) refl (zeros x) (omega arith) message.some);
      }

  -- along turns of others it waits on
  waits_on : (c : Sender) (order : List Sender) (list : List Entry) (from : ℕ → ℕ) (due_at : ℕ) → 0 < n → In c table.senders → Level c order from → wake c.number ≤ from c.number
      → Waits c list (from c.number) due_at → Waits c (list ++ cable_turns delay hands 0 order from) (cable_heard delay hands 0 order from c.number) due_at
  waits_on c [] list from due_at some c_in level awake k = subst (λ l. Waits c l (from c.number) due_at) (sym (append-nil list)) k
  waits_on c (a ∷ order) list from due_at some c_in level awake k =
      let x : Entry = sends hands 0 a (from a.number + a.tg) in
      let same : from a.number ≡ from c.number = level.same a (inl refl) in
      let ended : k.heard_all ≤ from c.number = k.ended in
      let message : Sendable a (hands a.number) 0 (get_or (hands a.number) 0 []) = sendable table hands n setting a 0 (level.there a (inl refl)) some in
      let next : Waits c (list ++ sends hands 0 a (from a.number + a.tg) ∷ []) (heard_end delay (sends hands 0 a (from a.number + a.tg)) c.number) due_at = record {
        heard_all = heard_end delay (sends hands 0 a (from a.number + a.tg)) c.number;
        ended = omega arith;
        gap_from = gap_behind table.sg table.sg (wake c.number) k.gap_from (from a.number + a.tg + delay (sends hands 0 a (from a.number + a.tg)) c.number) (heard_end delay (sends hands 0 a (from a.number + a.tg)) c.number);
        near = elim (cases_lt (table.sg + (from a.number + a.tg + delay (sends hands 0 a (from a.number + a.tg)) c.number)) k.gap_from) [
          | inl waits ↦ omega (
            arith,
            gap_waiting table.sg table.sg (wake c.number) k.gap_from (from a.number + a.tg + delay (sends hands 0 a (from a.number + a.tg)) c.number) (heard_end delay (sends hands 0 a (from a.number + a.tg)) c.number) waits,
            max_low (table.sg + heard_end delay (sends hands 0 a (from a.number + a.tg)) c.number + table.sg) (table.sg + wake c.number) (omega arith),
          )
          | inr elapsed ↦ omega (arith, gap_elapsed table.sg table.sg (wake c.number) k.gap_from (from a.number + a.tg + delay (sends hands 0 a (from a.number + a.tg)) c.number) (heard_end delay (sends hands 0 a (from a.number + a.tg)) c.number) elapsed)
        ];
        timers = timers_other table.sg delay wake (station table hands c) (setting.dealt.sound c c_in) list (sends hands 0 a (from a.number + a.tg)) k.heard_all (table.sg + due_at) k.gap_from 1 k.timers (omega arith) (level.apart a (inl refl)) message.some;
      } in
      subst (λ l. Waits c l (cable_heard delay hands 0 (a ∷ order) from c.number) due_at) (append_assoc list (x ∷ []) (cable_turns delay hands 0 order (heard_end delay x)))
      (waits_on c order (list ++ sends hands 0 a (from a.number + a.tg) ∷ []) (heard_end delay (sends hands 0 a (from a.number + a.tg))) due_at some c_in
      (level_next c a order from (sends hands 0 a (from a.number + a.tg)) refl level) (omega arith) next)
    where
      max_low : (a b : ℕ) → b ≤ a → max a b ≤ a
      max_low a b h = omega arith

  -- The last sender is heard so late by the first that this one has heard a synchronization gap before: it starts the next round too early.
  pub end_fails : (mid : List Sender) (f l : Sender) → 1 < n → turn_order table ≡ f ∷ (mid ++ l ∷ []) → In f table.senders → In l table.senders → l.number ≢ f.number
      → Level f mid (heard_end delay (sends hands 0 f (wake f.number + f.tg)))
      → heard_behind delay hands wake f mid f.number + table.sg
      ≤ heard_behind delay hands wake f mid l.number + l.tg + delay (sends hands 0 l (heard_behind delay hands wake f mid l.number + l.tg)) f.number
      → wake f.number + table.ti < heard_end delay (sends hands 0 l (heard_behind delay hands wake f mid l.number + l.tg)) f.number + table.sg
      → IsLawfulOnCable table.sg delay wake (stations table hands) (greatest_end (cable_rounds delay wake hands table.sg (turn_order table) n)) (cable_rounds delay wake hands table.sg (turn_order table) n) → ⊥
  end_fails mid f l more split f_in l_in apart level elapsed long ruled =
      let some : 0 < n = omega arith in
      let ti_some : 1000 ≤ table.ti = setting.dealt.facts.ti_least in
      let x : Entry = sends hands 0 f (wake f.number + f.tg) in
      let H : ℕ → ℕ = heard_end delay x in
      let y : Entry = sends hands 0 l (heard_behind delay hands wake f mid l.number + l.tg) in
      let heard_all : ℕ = heard_end delay y f.number in
      let m : ℕ = max (heard_all + f.tg) (wake f.number + f.tg + table.ti) in
      let m_low = max_within (heard_all + f.tg) (wake f.number + f.tg + table.ti) in
      let sg_some : 9 ≤ table.sg = setting.dealt.facts.sg_least in
      let m_high : m < heard_all + table.sg + f.tg = below_both (heard_all + f.tg) (wake f.number + f.tg + table.ti) (heard_all + table.sg + f.tg) (omega arith) (omega arith) in
      let w = waits_on f mid ([] ++ x ∷ []) H (wake f.number + f.tg + table.ti) some f_in level (omega arith) (waits_start f some f_in) in
      let ended : w.heard_all ≤ heard_behind delay hands wake f mid f.number = w.ended in
      let near : w.gap_from ≤ table.sg + heard_behind delay hands wake f mid f.number + table.sg = w.near in
      let message : Sendable l (hands l.number) 0 (get_or (hands l.number) 0 []) = sendable table hands n setting l 0 l_in some in
      let all : List Entry = (([] ++ x ∷ []) ++ cable_turns delay hands 0 mid H) ++ y ∷ [] in
      let moved : gap_behind table.sg table.sg (wake f.number) w.gap_from (heard_behind delay hands wake f mid l.number + l.tg + delay (sends hands 0 l (heard_behind delay hands wake f mid l.number + l.tg)) f.number) heard_all ≡ table.sg + heard_all =
      gap_elapsed table.sg table.sg (wake f.number) w.gap_from (heard_behind delay hands wake f mid l.number + l.tg + delay (sends hands 0 l (heard_behind delay hands wake f mid l.number + l.tg)) f.number) heard_all (omega arith) in
      let timers : HasTimers table hands delay wake f all heard_all (table.sg + (wake f.number + f.tg + table.ti)) (table.sg + heard_all) 1 =
      subst (λ g. HasTimers table hands delay wake f all heard_all (table.sg + (wake f.number + f.tg + table.ti)) g 1) moved
      (timers_other table.sg delay wake (station table hands f) (setting.dealt.sound f f_in) (([] ++ x ∷ []) ++ cable_turns delay hands 0 mid H) y w.heard_all (table.sg + (wake f.number + f.tg + table.ti)) w.gap_from 1 w.timers (omega arith) apart message.some) in
      let left : 1 < length (hands f.number) = has_left table hands n setting f 1 f_in more in
      let due : IsDueOnCable table.sg delay wake all (station table hands f) m =
      timers_due table.sg delay wake (station table hands f) (setting.dealt.sound f f_in) all heard_all (table.sg + (wake f.number + f.tg + table.ti)) (table.sg + heard_all) 1 m timers
      (omega (arith, m_low.0)) (omega (arith, m_low.0)) (omega (arith, m_low.1)) left in
      let order : List Sender = f ∷ (mid ++ l ∷ []) in
      let so = has_tail delay wake hands table.sg f (mid ++ l ∷ []) (n - 1) in
      let n_is : n ≡ suc (n - 1) = omega arith in
      let list_is : cable_rounds delay wake hands table.sg (turn_order table) n ≡ all ++ so.tail =
      ap (λ o. cable_rounds delay wake hands table.sg o n) split ∙ ap (cable_rounds delay wake hands table.sg order) n_is ∙ so.is
      ∙ ap (λ r. (x ∷ r) ++ so.tail) (turns_append delay wake hands table.sg 0 mid (l ∷ []) H) in
      let next_is : cable_origin delay wake hands table.sg order 1 f.number + f.tg ≡ heard_all + table.sg + f.tg =
      ap (λ v. v + table.sg + f.tg) (heard_append_turns delay wake hands table.sg 0 mid (l ∷ []) H f.number) in
      let tail_low : (z : Entry) → In z so.tail → m < z.moment = λ z i. omega (arith, so.low z i) in
      let unheard : IsUnheard delay f.number m so.tail = record { heard = λ z i. omega (arith, tail_low z i); own = λ z i own. omega (arith, tail_low z i) } in
      let due_there : IsDueOnCable table.sg delay wake (cable_rounds delay wake hands table.sg (turn_order table) n) (station table hands f) m =
      subst (λ k. IsDueOnCable table.sg delay wake k (station table hands f) m) (sym list_is) ((due_unheard table.sg delay wake all so.tail (station table hands f) m unheard).1 due) in
      let own : Entry = sends hands 1 f (cable_origin delay wake hands table.sg order 1 f.number + f.tg) in
      let own_in : In own (cable_rounds delay wake hands table.sg (turn_order table) n) =
      subst (λ o. In own (cable_rounds delay wake hands table.sg o n)) (sym split) (in_round delay wake hands table.sg order n 1 own more (inl refl)) in
      let ends : end_of own ≤ greatest_end (cable_rounds delay wake hands table.sg (turn_order table) n) = ends_within (cable_rounds delay wake hands table.sg (turn_order table) n) own own_in in
      let has : HasEntry (cable_rounds delay wake hands table.sg (turn_order table) n) f.number m =
      has_one (cable_rounds delay wake hands table.sg (turn_order table) n) (greatest_end (cable_rounds delay wake hands table.sg (turn_order table) n)) ruled f m f_in
      (before_end m heard_all table.sg f.tg (cable_origin delay wake hands table.sg order 1 f.number + f.tg) (bits (get_or (hands f.number) 1 [])) (greatest_end (cable_rounds delay wake hands table.sg (turn_order table) n)) m_high next_is ends) due_there in
      let moment : has.entry.moment ≡ m = has.moment in
      elim (in_append_cases all so.tail has.entry (subst (λ k. In has.entry k) list_is has.there)) [
        | inl round ↦ elim (in_append_cases (([] ++ x ∷ []) ++ cable_turns delay hands 0 mid H) (y ∷ []) has.entry round) [
          | inl before ↦ elim before [
            | inl is ↦ not_first (wake f.number + f.tg) table.ti m ti_some m_low.1 (sym (ap (λ (v : Entry). v.moment) is) ∙ moment)
            | inr between ↦
                let b = turn_terminal delay wake hands table.sg 0 mid H has.entry between in
                level.apart b.0 b.1 (sym b.2 ∙ has.terminal)
          ]
          | inr new ↦ elim new [
            | inl is ↦ apart (sym (ap (λ (v : Entry). v.terminal) is) ∙ has.terminal)
            | inr nothing ↦ nothing
          ]
        ]
        | inr later ↦ omega (arith, tail_low has.entry later)
      ]
    where
      below_both : (a b c : ℕ) → a < c → b < c → max a b < c
      below_both a b c h k = omega arith

      before_end : (m e sg tg o b g : ℕ) → m < e + sg + tg → o ≡ e + sg + tg → o + b ≤ g → m < g
      before_end m e sg tg o b g h is k = omega arith

      not_first : (s ti m : ℕ) → 1000 ≤ ti → s + ti ≤ m → s ≡ m → ⊥
      not_first s ti m h k e = omega arith
