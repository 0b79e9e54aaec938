-- The rounds of a periodic table that bears the delays: each sender is due at its offset, and none before.
use Rattle.std.proofs.Common.{◌≡◌, ◌≢◌, ℕ, zero, suc, ◌+◌, ◌*◌, ◌<◌, ◌≤◌, ◌⊎◌, true, cond, eqb, List, [], ◌∷◌, ◌++◌, length, get_or, Some, inl, inr, arith, sym, refl, ap, ◌∙◌, subst}
use Rattle.std.specs.Prelude.{max, fold}
use Rattle.std.proofs.lemmas.Bool.{cases_eq, cases_lt, eq-eqb, ne_eqb}
use Rattle.std.proofs.lemmas.List.{append-nil, append_assoc}
use Rattle.bus_strings.specs.Members.{In}
use Rattle.bus_strings.proofs.MemberLaws.{in_append_cases, in_append_left, in_append_right, in_push_cases}
use Rattle.bus_strings.specs.Messages.{Message, Entry, bits}
use Rattle.bus_strings.specs.Transmissions.{end_of}
use Rattle.bus_table.specs.declared.mode.Mode.TheVariants.{Periodic}
use Rattle.bus_table.specs.Tables.{Sender, Table, sender_numbers}
use Rattle.bus_table.specs.inside.Facts.{FitsMode, SenderFacts}
use Rattle.bus_table.specs.Lengths.{longest}
use Rattle.bus_table.specs.Turns.{turn_key, turn_order}
use Rattle.bus_table.specs.inside.Orders.{Differ, Rises}
use Rattle.bus_table.proofs.TurnLaws.{of_each, from_sort, in_sort, order_rises, numbers_differ}
use Rattle.bus_medium.specs.Timings.{greatest_gap, quiet_for, quiet_of, due_for}
use Rattle.bus_medium.specs.inside.Lazy.{HaveEnded}
use Rattle.bus_medium.specs.Clocks.{put}
use Rattle.bus_regime.specs.Gaps.{Gap, latest_end, last_end, gaps_from, gaps}
use Rattle.bus_schedule.specs.Closed.{sends, offset_turns, offset_schedule}
use Rattle.bus_medium.specs.Delays.{Delays, HearsWithin, heard, heard_end}
use Rattle.bus_medium.specs.Wakes.{settled}
use Rattle.bus_schedule.specs.Slack.{slack_behind, stays, all_stay}
use Rattle.bus_medium.proofs.CableClocks.{gap_elapsed, gap_waiting}
use Rattle.bus_medium.proofs.CableSteps.{put_here, put_other, gap_from_behind, gap_from_here, gap_from_other}
use Rattle.bus_medium.proofs.Hearing.{heard_ended}
use Rattle.bus_schedule.proofs.Orders.{rises_before, rises_after, same_sender}
use Rattle.bus_schedule.proofs.HandLemmas.{Sendable}
use Rattle.bus_schedule.proofs.GapLemmas.{behind_ends, final, final_last, final_low, gap_left}
use Rattle.bus_schedule.proofs.Slacks.{stays_more, stays_own, stays_next, all_stay_at, enough_room, slack_next}
use Rattle.bus_schedule.proofs.CableGrowing.{Grown, Takes, grown_step, grown_settled}
use Rattle.bus_schedule.proofs.Growing.{Setting, has_left, sendable}

-- a sender that has not heard a synchronization gap since its own start hears the last message no later than its slack, with which it stays in
-- sync over the gaps to come
pub record Lags (reach sg : ℕ) (number e end : ℕ) (ahead : List Gap) : Type 0 where
  pub slack : ℕ
  pub late : end ≤ e + slack
  pub stays : stays reach sg number (Some slack) ahead ≡ true

-- nothing has been sent
pub record IsFresh (table : Table) (list : List Entry) (e : ℕ) (end gap : ℕ → ℕ) : Type 0 where
  pub none : list ≡ []
  pub start : e ≡ 0
  pub ends : (a : Sender) → In a table.senders → end a.number ≡ 0
  pub gaps : (a : Sender) → In a table.senders → gap a.number ≡ table.sg

-- In the interval that begins at moment base some senders of this round are done; the longest message before has ended at `from`, which
-- counts as the gaps do, and the one that was sent at e, no later. Each sender has heard it at its own `end`.
pub record Span (Apart : ℕ → Type 0) (reach : ℕ) (delay : Delays) (table : Table) (messages : ℕ → List Message) (done rest : List Sender) (round base from : ℕ) (list : List Entry) : Type 0 where
  pub e : ℕ
  pub end : ℕ → ℕ
  pub due : ℕ → ℕ
  pub gap : ℕ → ℕ
  pub count : ℕ → ℕ
  pub grown : Grown Apart table messages delay list e end due gap count
  pub split : turn_order table ≡ done ++ rest
  pub before : List Gap
  pub gaps_split : gaps table ≡ before ++ gaps_from table.ti from rest
  pub round_end : final table.ti from rest ≡ table.ti + last_end 0 (turn_order table)
  pub ends : IsFresh table list e end gap ⊎ (e + table.ti ≤ from + base)
  pub waiting_due : (a : Sender) → In a rest → due a.number ≡ quiet_of table + (base + a.at)
  pub waiting_count : (a : Sender) → In a rest → count a.number ≡ round
  pub spent_due : (a : Sender) → In a done → due a.number ≡ quiet_of table + (base + a.at + table.ti)
  pub spent_count : (a : Sender) → In a done → count a.number ≡ suc round
  pub late : (a : Sender) → In a table.senders → end a.number ≤ e + reach
  pub near : (a : Sender) → In a table.senders → gap a.number ≤ quiet_of table + end a.number + table.sg
  -- each sender has heard a synchronization gap, or lags
  pub synchronized : (a : Sender) → In a table.senders → (gap a.number ≤ quiet_of table + end a.number)
      ⊎ Lags reach table.sg a.number e (end a.number) (gaps_from table.ti from rest ++ before)

-- the offset of the sender with this number
pub at_number : List Sender → ℕ → ℕ
at_number [] n = 0
at_number (a ∷ senders) n = cond (eqb n a.number) a.at (at_number senders n)

pub at_number_is : (senders : List Sender) (a : Sender) → Differ (λ c. c.number) senders → In a senders → at_number senders a.number ≡ a.at
unfolding at_number
at_number_is [] a d i = absurd i
at_number_is (b ∷ senders) a d (inl same) = rw (eq-eqb a.number b.number (ap (λ (c : Sender). c.number) same)) (ap (λ (c : Sender). c.at) (sym same))
at_number_is (b ∷ senders) a d (inr i) = rw (ne_eqb a.number b.number (λ e. d.0 a i (sym e))) (at_number_is senders a d.1 i)

gap_from_near : (q sg : ℕ) (delay : Delays) (gap : ℕ → ℕ) (n : ℕ) (x : Entry) (k : ℕ) → gap_from_behind q sg delay settled gap n x k ≤ q + heard_end delay x k + sg
gap_from_near q sg delay gap n x k = elim (cases_eq k n) [
  | inl here ↦ omega (arith, gap_from_here q sg delay settled gap n x k here)
  | inr apart ↦ elim (cases_lt (q + (x.moment + delay x k)) (gap k)) [
    | inl waits ↦ omega (arith, gap_from_other q sg delay settled gap n x k apart, gap_waiting q sg 0 (gap k) (x.moment + delay x k) (heard_end delay x k) waits)
    | inr elapsed ↦ omega (arith, gap_from_other q sg delay settled gap n x k apart, gap_elapsed q sg 0 (gap k) (x.moment + delay x k) (heard_end delay x k) elapsed)
  ]
]

gap_from_elapsed : (q sg : ℕ) (delay : Delays) (gap : ℕ → ℕ) (n : ℕ) (x : Entry) (k : ℕ) → k ≢ n → gap k ≤ q + (x.moment + delay x k)
    → gap_from_behind q sg delay settled gap n x k ≡ q + heard_end delay x k
gap_from_elapsed q sg delay gap n x k apart elapsed =
    gap_from_other q sg delay settled gap n x k apart ∙ gap_elapsed q sg 0 (gap k) (x.moment + delay x k) (heard_end delay x k) elapsed

-- no terminal gap is above the greatest
fold_low : (senders : List Sender) (gap : ℕ) → gap ≤ fold (λ g (s : Sender). max g s.tg) gap senders
fold_low [] gap = omega arith
fold_low (s ∷ senders) gap = let k : max gap s.tg ≤ fold (λ g (z : Sender). max g z.tg) (max gap s.tg) senders = fold_low senders (max gap s.tg) in let m : gap ≤ max gap s.tg = grind arith in omega arith

fold_tg : (senders : List Sender) (gap : ℕ) (a : Sender) → In a senders → a.tg ≤ fold (λ g (s : Sender). max g s.tg) gap senders
fold_tg [] gap a i = absurd i
fold_tg (s ∷ senders) gap a (inl same) =
    let k : max gap s.tg ≤ fold (λ g (z : Sender). max g z.tg) (max gap s.tg) senders = fold_low senders (max gap s.tg) in
    let e : a.tg ≡ s.tg = ap (λ (z : Sender). z.tg) same in
    let m : s.tg ≤ max gap s.tg = grind arith in omega arith
fold_tg (s ∷ senders) gap a (inr i) = fold_tg senders (max gap s.tg) a i

pub tg_greatest : (senders : List Sender) (a : Sender) → In a senders → a.tg ≤ greatest_gap senders
tg_greatest senders a i = fold_tg senders 0 a i

more_intervals : (round ti : ℕ) → round * ti + ti ≡ suc round * ti
more_intervals round ti = grind arith

-- each offset of a periodic table is below its transmit interval
pub at_below : (table : Table) (a : Sender) → table.mode ≡ Periodic → SenderFacts table a → a.at < table.ti
at_below table a mode facts = subst (λ m. FitsMode m table.ti a.at) mode facts.mode

nothing_ended : (delay : Delays) (k t : ℕ) (list : List Entry) → list ≡ [] → HaveEnded (heard delay k list) t
nothing_ended delay k t list none = subst (λ l. HaveEnded (heard delay k l) t) (sym none) (λ x i. absurd i)

-- `reach` bounds the delays between senders, and `most` those to a terminal that is to hear no two overlap
module _ (Apart : ℕ → Type 0) (delay : Delays) (own : (x : Entry) → delay x x.terminal ≡ 0)
    (reach most : ℕ) (table : Table) (within_most : (k : ℕ) → Apart k → HearsWithin most (sender_numbers table) delay k) (messages : ℕ → List Message) (n : ℕ)
    (setting : Setting table messages n) (mode : table.mode ≡ Periodic)
    (reaching : (x : Entry) (a b : Sender) → In a table.senders → In b table.senders → x.terminal ≡ a.number → delay x b.number ≤ reach)
    (wide : (g : Gap) → In g (gaps table) → g.from + (g.sender.tg + reach) ≤ g.to)
    (staying : all_stay reach table.sg [] (gaps table) ≡ true)
    (apart_enough : (g : Gap) → In g (gaps table) → g.from + most ≤ g.to) where
  quiet_is : quiet_of table ≡ table.sg + greatest_gap table.senders
  quiet_is = ap (λ m. quiet_for m table.sg table.senders) mode

  rises : Rises (turn_key Periodic) (turn_order table)
  rises = subst (λ m. Rises (turn_key m) (turn_order table)) mode (order_rises table setting.dealt.facts)

  gap_tg : (ti from : ℕ) (order : List Sender) (g : Gap) → In g (gaps_from ti from order) → In g.sender order
  gap_tg ti from [] g i = absurd i
  gap_tg ti from (s ∷ order) g (inl same) = inl (ap (λ (h : Gap). h.sender) same)
  gap_tg ti from (s ∷ order) g (inr i) = inr (gap_tg ti (ti + latest_end s) order g i)

  -- a gap is more than `reach` wide
  roomy : (g : Gap) → In g (gaps table) → g.from + (reach + 1) ≤ g.to
  roomy g i =
      let there : In g.sender table.senders = from_sort (turn_key table.mode) table.senders g.sender (gap_tg table.ti (last_end 0 (turn_order table)) (turn_order table) g i) in
      let facts : SenderFacts table g.sender = of_each (SenderFacts table) table.senders setting.dealt.facts.senders g.sender there in
      let tg : 8 ≤ g.sender.tg = facts.tg_least in
      let w : g.from + (g.sender.tg + reach) ≤ g.to = wide g i in
      omega arith

  turn : (done : List Sender) (a : Sender) (rest : List Sender) (round base from : ℕ) (list : List Entry) → round < n
      → Span Apart reach delay table messages done (a ∷ rest) round base from list
      → Span Apart reach delay table messages (done ++ a ∷ []) rest round base (table.ti + latest_end a) (list ++ sends messages round a (base + a.at) ∷ [])
  turn done a rest round base from list more w =
      let x : Entry = sends messages round a (base + a.at) in
      let q : ℕ = quiet_of table in
      let order : turn_order table ≡ done ++ a ∷ rest = w.split in
      let up : Rises (turn_key Periodic) (done ++ a ∷ rest) = subst (λ o. Rises (turn_key Periodic) o) order rises in
      let within : (b : Sender) → In b (done ++ a ∷ rest) → In b table.senders = λ b i. from_sort (turn_key table.mode) table.senders b (subst (λ o. In b o) (sym order) i) in
      let there : In a table.senders = within a (in_append_right done (a ∷ rest) a (inl refl)) in
      let facts : (b : Sender) → In b table.senders → SenderFacts table b = λ b i. of_each (SenderFacts table) table.senders setting.dealt.facts.senders b i in
      let here : Gap = record { sender = a; from = from; to = table.ti + a.at } in
      let here_in : In (record { sender = a; from = from; to = table.ti + a.at }) (gaps table) =
      subst (λ k. In (record { sender = a; from = from; to = table.ti + a.at }) k) (sym w.gaps_split) (in_append_right w.before (gaps_from table.ti from (a ∷ rest)) (record { sender = a; from = from; to = table.ti + a.at }) (inl refl)) in
      let fits : from + (a.tg + reach) ≤ table.ti + a.at = wide (record { sender = a; from = from; to = table.ti + a.at }) here_in in
      let a_inside : a.at < table.ti = at_below table a mode (facts a there) in
      let m : Sendable a (messages a.number) round (get_or (messages a.number) round []) = sendable table messages n setting a round there more in
      let m_some : 0 < bits (get_or (messages a.number) round []) = m.some_bits in
      let m_most : bits (get_or (messages a.number) round []) ≤ longest a = m.most in
      let to_come : (g : Gap) → In g (gaps_from table.ti (table.ti + latest_end a) rest) → In g (gaps table) = λ g j.
      subst (λ k. In g k) (sym w.gaps_split) (in_append_right w.before (gaps_from table.ti from (a ∷ rest)) g (inr j)) in
      let late : (b : Sender) → In b rest → a.at + reach < b.at = λ b i.
      let k : table.ti + latest_end a + (reach + 1) ≤ table.ti + b.at = behind_ends table.ti (table.ti + latest_end a) (reach + 1) rest b
      (λ g j. roomy g (to_come g j)) i in
      omega arith in
      -- over the end of the interval, any offset of the next one lies so far behind the end of this message
      let last : table.ti + latest_end a ≤ table.ti + last_end 0 (turn_order table) =
      subst (λ v. table.ti + latest_end a ≤ v) w.round_end (final_low table.ti (table.ti + latest_end a) rest (λ g j. let h : g.from + (reach + 1) ≤ g.to = roomy g (to_come g j) in omega arith)) in
      let wraps : (b : Sender) → In b table.senders → a.at + reach < table.ti + b.at = λ b i.
      let k : last_end 0 (turn_order table) + (reach + 1) ≤ table.ti + b.at = behind_ends table.ti (last_end 0 (turn_order table)) (reach + 1) (turn_order table) b roomy (in_sort (turn_key table.mode) table.senders b i) in
      omega arith in
      let tell : (b : Sender) → In b table.senders → b.number ≡ a.number → b ≡ a = λ b i same. same_sender (λ c. c.number) table.senders b a (numbers_differ table setting.dealt.facts) i there same in
      let key_apart : (b : Sender) → turn_key Periodic b ≢ turn_key Periodic a → In b table.senders → b.number ≢ a.number = λ b k i same. k (ap (turn_key Periodic) (tell b i same)) in
      let apart_before : (b : Sender) → In b done → b.number ≢ a.number = λ b i. key_apart b (λ e. let k : turn_key Periodic b < turn_key Periodic a = rises_before (turn_key Periodic) done a rest b up i in omega arith) (within b (in_append_left done (a ∷ rest) b i)) in
      let apart_after : (b : Sender) → In b rest → b.number ≢ a.number = λ b i. key_apart b (λ e. let k : turn_key Periodic a < turn_key Periodic b = rises_after (turn_key Periodic) done a rest b up i in omega arith) (within b (in_append_right done (a ∷ rest) b (inr i))) in
      let quiet : quiet_of table ≡ table.sg + greatest_gap table.senders = quiet_is in
      let tg : a.tg ≤ greatest_gap table.senders = tg_greatest table.senders a there in
      let d_reach : (b : Sender) → In b table.senders → delay (sends messages round a (base + a.at)) b.number ≤ reach = λ b i. reaching (sends messages round a (base + a.at)) a b there i refl in
      let self : delay (sends messages round a (base + a.at)) a.number ≡ 0 = own (sends messages round a (base + a.at)) in
      -- all have heard the last message to its end, and the gap behind it
      let low : w.e ≤ base + a.at = elim (w.ends) [
        | inl fresh ↦ let k : w.e ≡ 0 = fresh.start in omega arith
        | inr on ↦ let k : w.e + (a.tg + reach) ≤ base + a.at = gap_left table.ti from base w.e a.at (a.tg + reach) on fits in omega arith
      ] in
      let heard_all : (b : Sender) → In b table.senders → w.end b.number ≤ base + a.at = λ b i. elim (w.ends) [
        | inl fresh ↦ let k : w.end b.number ≡ 0 = fresh.ends b i in omega arith
        | inr on ↦
            let k : w.e + (a.tg + reach) ≤ base + a.at = gap_left table.ti from base w.e a.at (a.tg + reach) on fits in
            let l : w.end b.number ≤ w.e + reach = w.late b i in omega arith
      ] in
      let due_a : w.due a.number ≡ quiet_of table + (base + a.at) = w.waiting_due a (inl refl) in
      -- everyone else is due later, and so much later that it hears this message before
      let cases : (b : Sender) → In b table.senders → (b ≡ a) ⊎ (In b done ⊎ In b rest) = λ b i. elim (in_append_cases done (a ∷ rest) b (subst (λ o. In b o) order (in_sort (turn_key table.mode) table.senders b i))) [
        | inl spoken ↦ inr (inl spoken)
        | inr waits ↦ elim waits [ inl same ↦ inl same | inr later ↦ inr (inr later) ]
      ] in
      let later_due : (b : Sender) → In b table.senders → b.number ≢ a.number → quiet_of table + (base + a.at + delay (sends messages round a (base + a.at)) b.number) < w.due b.number = λ b i apart.
      let d : delay (sends messages round a (base + a.at)) b.number ≤ reach = d_reach b i in
      elim (cases b i) [
        | inl same ↦ absurd (apart (ap (λ (c : Sender). c.number) same))
        | inr o ↦ elim o [
          | inl spoken ↦ let u : w.due b.number ≡ quiet_of table + (base + b.at + table.ti) = w.spent_due b spoken in let k : a.at + reach < table.ti + b.at = wraps b i in omega arith
          | inr waits ↦ let u : w.due b.number ≡ quiet_of table + (base + b.at) = w.waiting_due b (inr waits) in let k : a.at + reach < b.at = late b waits in omega arith
        ]
      ] in
      let terminal : w.gap a.number + a.tg ≤ quiet_of table + (base + a.at) = elim (w.ends) [
        | inl fresh ↦ let k : w.gap a.number ≡ table.sg = fresh.gaps a there in omega arith
        | inr on ↦
            let k : w.e + (a.tg + reach) ≤ base + a.at = gap_left table.ti from base w.e a.at (a.tg + reach) on fits in
            elim (w.synchronized a there) [
              | inl in_sync ↦ let l : w.end a.number ≤ w.e + reach = w.late a there in omega arith
              | inr lags ↦
                  let room : from + (table.sg + a.tg + lags.slack) ≤ table.ti + a.at = enough_room table.sg lags.slack (record { sender = a; from = from; to = table.ti + a.at })
                  (stays_own reach table.sg a.number (Some lags.slack) (record { sender = a; from = from; to = table.ti + a.at }) (gaps_from table.ti (table.ti + latest_end a) rest ++ w.before) refl lags.stays) in
                  let c : w.e + (table.sg + a.tg + lags.slack) ≤ base + a.at = gap_left table.ti from base w.e a.at (table.sg + a.tg + lags.slack) on room in
                  let l : w.end a.number ≤ w.e + lags.slack = lags.late in
                  let g : w.gap a.number ≤ quiet_of table + w.end a.number + table.sg = w.near a there in
                  omega arith
            ]
      ] in
      let takes : Takes table messages delay w.end w.due w.gap w.count a round (base + a.at) = record {
        ready = heard_all;
        interval = omega arith;
        terminal = terminal;
        first = inl (omega arith);
        others = λ b i apart. inr (inl (later_due b i apart));
        turn = w.waiting_count a (inl refl);
      } in
      let all_heard : (k : ℕ) → Apart k → HaveEnded (heard delay k list) (base + a.at) = λ k far. elim (w.ends) [
        | inl fresh ↦ nothing_ended delay k (base + a.at) list fresh.none
        | inr on ↦ λ y i.
            let v : w.e + most ≤ base + a.at = gap_left table.ti from base w.e a.at most on (apart_enough (record { sender = a; from = from; to = table.ti + a.at }) here_in) in
            let u : end_of y ≤ w.e + most = heard_ended delay k most w.e list (λ z j. within_most k far z (w.grown.of z j)) w.grown.ended y i in
            omega arith
      ] in
      record {
        e = end_of (sends messages round a (base + a.at));
        end = heard_end delay (sends messages round a (base + a.at));
        due = put w.due a.number (quiet_of table + (base + a.at) + table.ti);
        gap = gap_from_behind (quiet_of table) table.sg delay settled w.gap a.number (sends messages round a (base + a.at));
        count = put w.count a.number (w.count a.number + 1);
        grown = grown_step Apart delay own table messages setting.dealt list w.e w.end w.due w.gap w.count a round (base + a.at) (has_left table messages n setting a round there more) w.grown there low all_heard takes;
        split = order ∙ sym (append_assoc done (a ∷ []) rest);
        before = w.before ++ here ∷ [];
        gaps_split = w.gaps_split ∙ sym (append_assoc w.before (here ∷ []) (gaps_from table.ti (table.ti + latest_end a) rest));
        round_end = w.round_end;
        ends = inr (omega arith);
        waiting_due = λ c i. put_other w.due a.number (quiet_of table + (base + a.at) + table.ti) c.number (apart_after c i) ∙ w.waiting_due c (inr i);
        waiting_count = λ c i. put_other w.count a.number (w.count a.number + 1) c.number (apart_after c i) ∙ w.waiting_count c (inr i);
        spent_due = λ c i. elim (in_push_cases done a c i) [
          | inl old ↦ put_other w.due a.number (quiet_of table + (base + a.at) + table.ti) c.number (apart_before c old) ∙ w.spent_due c old
          | inr same ↦ put_here w.due a.number (quiet_of table + (base + a.at) + table.ti) c.number (ap (λ (z : Sender). z.number) same) ∙ (let e : c.at ≡ a.at = ap (λ (z : Sender). z.at) same in omega arith)
        ];
        spent_count = λ c i. elim (in_push_cases done a c i) [
          | inl old ↦ put_other w.count a.number (w.count a.number + 1) c.number (apart_before c old) ∙ w.spent_count c old
          | inr same ↦ put_here w.count a.number (w.count a.number + 1) c.number (ap (λ (z : Sender). z.number) same) ∙ (let k : w.count a.number ≡ round = w.waiting_count a (inl refl) in omega arith)
        ];
        late = λ c i. let k : delay (sends messages round a (base + a.at)) c.number ≤ reach = d_reach c i in omega arith;
        near = λ c i. gap_from_near (quiet_of table) table.sg delay w.gap a.number (sends messages round a (base + a.at)) c.number;
        synchronized = λ c i. elim (cases_eq c.number a.number) [
          | inl own ↦
              let is : c ≡ a = tell c i own in
              inr (record {
                slack = 0;
                late = let k : delay (sends messages round a (base + a.at)) c.number ≡ 0 = ap (delay (sends messages round a (base + a.at))) own ∙ self in omega arith;
                stays = ap (λ k. stays reach table.sg k (Some 0) (gaps_from table.ti (table.ti + latest_end a) rest ++ (w.before ++ here ∷ []))) own
                    ∙ all_stay_at reach table.sg [] w.before here (gaps_from table.ti (table.ti + latest_end a) rest) (subst (λ all. all_stay reach table.sg [] all ≡ true) w.gaps_split staying);
              })
          | inr other ↦
              let d : ℕ = delay (sends messages round a (base + a.at)) c.number in
              let d_most : delay (sends messages round a (base + a.at)) c.number ≤ reach = d_reach c i in
              elim (cases_lt (quiet_of table + (base + a.at + delay (sends messages round a (base + a.at)) c.number)) (w.gap c.number)) [
                | inl waits ↦
                    let still : Lags reach table.sg c.number w.e (w.end c.number) (gaps_from table.ti from (a ∷ rest) ++ w.before) = elim (w.synchronized c i) [
                      | inl in_sync ↦ let k : w.end c.number ≤ base + a.at = heard_all c i in absurd (omega arith)
                      | inr lags ↦ lags
                    ] in
                    let g : w.gap c.number ≤ quiet_of table + w.end c.number + table.sg = w.near c i in
                    let l : w.end c.number ≤ w.e + still.slack = still.late in
                    let on : w.e + table.ti ≤ from + base = elim (w.ends) [
                      | inl fresh ↦ let k : w.gap c.number ≡ table.sg = fresh.gaps c i in absurd (omega arith)
                      | inr on ↦ on
                    ] in
                    let next = slack_next reach table.sg still.slack (delay (sends messages round a (base + a.at)) c.number) (record { sender = a; from = from; to = table.ti + a.at }) (omega arith) d_most (omega arith) in
                    let s_low : delay (sends messages round a (base + a.at)) c.number ≤ next.0 = next.1 in
                    let goes : stays reach table.sg c.number (slack_behind reach table.sg (Some still.slack) (record { sender = a; from = from; to = table.ti + a.at })) (gaps_from table.ti (table.ti + latest_end a) rest ++ w.before) ≡ true =
                    stays_next reach table.sg c.number (Some still.slack) (record { sender = a; from = from; to = table.ti + a.at }) (gaps_from table.ti (table.ti + latest_end a) rest ++ w.before) (λ e. other (sym e)) still.stays in
                    inr (record {
                      slack = next.0;
                      late = omega arith;
                      stays = subst (λ v. stays reach table.sg c.number (Some next.0) v ≡ true) (append_assoc (gaps_from table.ti (table.ti + latest_end a) rest) w.before (here ∷ []))
                          (stays_more reach table.sg c.number (Some next.0) (gaps_from table.ti (table.ti + latest_end a) rest ++ w.before) (here ∷ [])
                          (subst (λ v. stays reach table.sg c.number v (gaps_from table.ti (table.ti + latest_end a) rest ++ w.before) ≡ true) next.2 goes));
                    })
                | inr elapsed ↦ inl (omega (arith, gap_from_elapsed (quiet_of table) table.sg delay w.gap a.number (sends messages round a (base + a.at)) c.number other elapsed))
              ]
        ];
      }

  turns_on : (rest done : List Sender) (round base from : ℕ) (list : List Entry) → round < n → Span Apart reach delay table messages done rest round base from list
      → Span Apart reach delay table messages (done ++ rest) [] round base (final table.ti from rest) (list ++ offset_turns messages round rest base)
  turns_on [] done round base from list more w = subst (λ d. Span Apart reach delay table messages d [] round base from (list ++ [])) (sym (append-nil done)) (subst (λ k. Span Apart reach delay table messages done [] round base from k) (sym (append-nil list)) w)
  turns_on (a ∷ rest) done round base from list more w =
      let so = turns_on rest (done ++ a ∷ []) round base (table.ti + latest_end a) (list ++ sends messages round a (base + a.at) ∷ []) more (turn done a rest round base from list more w) in
      subst (λ d. Span Apart reach delay table messages d [] round base (final table.ti from (a ∷ rest)) (list ++ offset_turns messages round (a ∷ rest) base)) (append_assoc done (a ∷ []) rest)
      (subst (λ k. Span Apart reach delay table messages ((done ++ a ∷ []) ++ rest) [] round base (final table.ti from (a ∷ rest)) k) (append_assoc list (sends messages round a (base + a.at) ∷ []) (offset_turns messages round rest base)) so)

  first_sender : (a : Sender) × In a table.senders
  first_sender = some_in table.senders setting.dealt.facts.some
    where
      some_in : (senders : List Sender) → 0 < length senders → (a : Sender) × In a senders
      some_in [] h = absurd (omega arith)
      some_in (a ∷ senders) h = (a, inl refl)

  round_is : (from : ℕ) → final table.ti from (turn_order table) ≡ table.ti + last_end 0 (turn_order table)
  round_is from = final_last table.ti from (turn_order table) first_sender.0 (in_sort (turn_key table.mode) table.senders first_sender.0 first_sender.1)

  round_on : (round base from : ℕ) (list : List Entry) → Span Apart reach delay table messages (turn_order table) [] round base from list
      → Span Apart reach delay table messages [] (turn_order table) (suc round) (base + table.ti) (last_end 0 (turn_order table)) list
  round_on round base from list w =
      let whole : gaps table ≡ w.before = w.gaps_split ∙ append-nil w.before in
      record {
        e = w.e;
        end = w.end;
        due = w.due;
        gap = w.gap;
        count = w.count;
        grown = w.grown;
        split = refl;
        before = [];
        gaps_split = refl;
        round_end = round_is (last_end 0 (turn_order table));
        ends = let k : from ≡ table.ti + last_end 0 (turn_order table) = w.round_end in elim (w.ends) [
          | inl fresh ↦ inl fresh
          | inr on ↦ let s : w.e + table.ti ≤ from + base = on in inr (omega arith)
        ];
        waiting_due = λ a i. w.spent_due a i ∙ omega arith;
        waiting_count = λ a i. w.spent_count a i;
        spent_due = λ a i. absurd i;
        spent_count = λ a i. absurd i;
        late = w.late;
        near = w.near;
        synchronized = λ a i. subst (λ v. (w.gap a.number ≤ quiet_of table + w.end a.number) ⊎ Lags reach table.sg a.number w.e (w.end a.number) v) (sym whole ∙ sym (append-nil (gaps table))) (w.synchronized a i);
      }

  due_first : ℕ → ℕ
  due_first k = quiet_of table + at_number table.senders k

  due_first_is : (a : Sender) → In a table.senders → quiet_of table + a.at ≡ due_first a.number
  unfolding due_first
  due_first_is a i = ap (λ k. quiet_of table + k) (sym (at_number_is table.senders a (numbers_differ table setting.dealt.facts) i))

  at_settled : Span Apart reach delay table messages [] (turn_order table) 0 0 (last_end 0 (turn_order table)) []
  at_settled =
      let q : quiet_of table ≡ table.sg + greatest_gap table.senders = quiet_is in
      record {
        e = 0;
        end = λ _. 0;
        due = due_first;
        gap = λ k. table.sg + settled k;
        count = λ _. 0;
        grown = grown_settled Apart delay own table messages setting.dealt due_first
            (λ a i. ap (λ m. quiet_of table + due_for m a) mode ∙ due_first_is a i);
        split = refl;
        before = [];
        gaps_split = refl;
        round_end = round_is (last_end 0 (turn_order table));
        ends = inl (record { none = refl; start = refl; ends = λ a i. refl; gaps = λ a i. omega arith });
        waiting_due = λ a i. sym (due_first_is a (from_sort (turn_key table.mode) table.senders a i)) ∙ omega arith;
        waiting_count = λ a i. refl;
        spent_due = λ a i. absurd i;
        spent_count = λ a i. absurd i;
        late = λ a i. omega arith;
        near = λ a i. omega arith;
        synchronized = λ a i. inl (omega arith);
      }

  pub intervals_on : (round : ℕ) → round ≤ n
      → Span Apart reach delay table messages [] (turn_order table) round (round * table.ti) (last_end 0 (turn_order table)) (offset_schedule messages table.ti (turn_order table) round)
  intervals_on zero h = subst (λ b. Span Apart reach delay table messages [] (turn_order table) 0 b (last_end 0 (turn_order table)) []) (omega arith) at_settled
  intervals_on (suc round) h =
      subst (λ b. Span Apart reach delay table messages [] (turn_order table) (suc round) b (last_end 0 (turn_order table)) (offset_schedule messages table.ti (turn_order table) (suc round))) (more_intervals round table.ti)
      (round_on round (round * table.ti) (final table.ti (last_end 0 (turn_order table)) (turn_order table)) (offset_schedule messages table.ti (turn_order table) (suc round))
      (turns_on (turn_order table) [] round (round * table.ti) (last_end 0 (turn_order table)) (offset_schedule messages table.ti (turn_order table) round) (omega arith) (intervals_on round (omega arith))))
