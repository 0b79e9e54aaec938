-- The turns of an aperiodic table, in rounds of the senders that have a message left: each sender is due when its turn comes, and none before.
-- The live senders only grow fewer, so that the cycle of a round's shortest messages bounds from below how far its starts are from those of
-- the round before.
use Rattle.std.proofs.Common.{◌≡◌, ◌≢◌, ℕ, zero, suc, ◌+◌, ◌<◌, ◌≤◌, Bool, true, false, cond, List, [], ◌∷◌, ◌++◌, length, get_or, inl, inr, arith, sym, refl, ap, ◌∙◌, subst}
use Rattle.std.specs.Prelude.{◌==◌, if◌then◌else◌, nat_lt}
use Rattle.std.specs.List.{filter}
use Rattle.std.proofs.lemmas.Bool.{eq-eqb, ne_eqb, lt-ltb, ltb-true, cases_lt}
use Rattle.std.proofs.lemmas.List.{append-nil, append_assoc}
use Rattle.bus_strings.specs.Members.{In}
use Rattle.bus_strings.specs.Messages.{Message, Entry, bits}
use Rattle.bus_strings.specs.Transmissions.{end_of}
use Rattle.bus_table.specs.declared.mode.Mode.TheVariants.{Aperiodic}
use Rattle.bus_table.specs.Tables.{Sender, Table}
use Rattle.bus_table.specs.inside.Facts.{SenderFacts}
use Rattle.bus_table.specs.Lengths.{shortest}
use Rattle.bus_table.specs.Turns.{turn_key, turn_order}
use Rattle.bus_table.specs.inside.Orders.{Rises}
use Rattle.bus_table.proofs.TurnLaws.{of_each, from_sort, in_sort, order_rises, numbers_differ}
use Rattle.bus_medium.specs.Timings.{quiet_of, due_for}
use Rattle.bus_medium.specs.inside.Lazy.{HaveEnded}
use Rattle.bus_medium.specs.Delays.{at_once, heard, heard_end}
use Rattle.bus_medium.specs.Wakes.{settled}
use Rattle.bus_medium.proofs.CableClocks.{gap_elapsed, gap_waiting, max_first}
use Rattle.bus_medium.proofs.CableSteps.{put_here, put_other, due_behind, gap_from_behind, sent_behind, gap_from_here, gap_from_other}
use Rattle.bus_medium.proofs.Hearing.{heard_ended}
use Rattle.bus_schedule.specs.Closed.{sends, turns, turns_end, origin}
use Rattle.bus_schedule.specs.Live.{live, live_rounds, AreLong}
use Rattle.bus_strings.proofs.MemberLaws.{in_append_cases, in_append_left, in_append_right, in_push_cases, in_filter, from_filter, filter_filter}
use Rattle.bus_schedule.proofs.Orders.{rises_before, rises_after, rises_filter, same_sender}
use Rattle.bus_schedule.proofs.HandLemmas.{station, quiet_is}
use Rattle.bus_schedule.proofs.Spacing.{cycle, cycle_sum, cycle_filter}
use Rattle.bus_schedule.proofs.CableGrowing.{Grown, Takes, grown_step, grown_settled}
use Rattle.bus_schedule.proofs.Growing.{Dealt, message_left}

-- the turns before the terminal with this number, where messages have so many bit times, and its terminal gap
abbrev pub ahead : (Sender → ℕ) → List Sender → ℕ → ℕ
ahead w [] n = 0
ahead w (a ∷ bs) n = if n == a.number then a.tg else a.tg + w a + ahead w bs n

ahead_here : (w : Sender → ℕ) (a : Sender) (bs : List Sender) (n : ℕ) → n ≡ a.number → ahead w (a ∷ bs) n ≡ a.tg
ahead_here w a bs n e = rw (eq-eqb n a.number e) refl

ahead_there : (w : Sender → ℕ) (a : Sender) (bs : List Sender) (n : ℕ) → n ≢ a.number → ahead w (a ∷ bs) n ≡ a.tg + w a + ahead w bs n
ahead_there w a bs n e = rw (ne_eqb n a.number e) refl

ahead_middle : (w : Sender → ℕ) (done : List Sender) (a : Sender) (rest : List Sender) → ((b : Sender) → In b done → a.number ≢ b.number)
    → ahead w (done ++ a ∷ rest) a.number ≡ cycle w done + a.tg
ahead_middle w [] a rest h = ahead_here w a rest a.number refl ∙ omega arith
ahead_middle w (c ∷ done) a rest h = ahead_there w c (done ++ a ∷ rest) a.number (h c (inl refl)) ∙ omega (arith, ahead_middle w done a rest (λ b i. h b (inr i)))

pub cycle_middle : (w : Sender → ℕ) (done : List Sender) (a : Sender) (rest : List Sender) → cycle w (done ++ a ∷ rest) ≡ cycle w done + (a.tg + w a) + cycle w rest
cycle_middle w [] a rest = omega arith
cycle_middle w (c ∷ done) a rest = omega (arith, cycle_middle w done a rest)

filter_middle : (p : Sender → Bool) (done : List Sender) (a : Sender) (rest : List Sender) → p a ≡ true
    → filter p (done ++ a ∷ rest) ≡ filter p done ++ a ∷ filter p rest
filter_middle p [] a rest h = ap (λ b. cond b (a ∷ filter p rest) (filter p rest)) h
filter_middle p (c ∷ done) a rest h =
    elim (p c) as (λ b. cond b (c ∷ filter p (done ++ a ∷ rest)) (filter p (done ++ a ∷ rest)) ≡ cond b (c ∷ filter p done) (filter p done) ++ a ∷ filter p rest) [
      | true ↦ ap (λ o. c ∷ o) (filter_middle p done a rest h)
      | false ↦ filter_middle p done a rest h
    ]

-- whether a sender has a message left for a round
abbrev pub has_more : (ℕ → List Message) → ℕ → Sender → Bool
has_more hands round sender = nat_lt round (length (hands sender.number))

-- in a round some senders are done, and the rest count their terminal gaps from moment `from`; all others are silent
pub record Turn (table : Table) (hands : ℕ → List Message) (done rest : List Sender) (round from : ℕ) (list : List Entry) : Type 0 where
  pub e : ℕ
  pub end : ℕ → ℕ
  pub due : ℕ → ℕ
  pub gap : ℕ → ℕ
  pub count : ℕ → ℕ
  pub sofar : Grown (λ _. Unit {0}) table hands at_once list e end due gap count
  pub ended : (a : Sender) → In a table.senders → end a.number ≤ e
  pub split : live table hands round ≡ done ++ rest
  pub low : e ≤ from
  pub waiting_gap : (a : Sender) → In a rest → gap a.number ≡ table.sg + from
  pub waiting_due : (a : Sender) → In a rest → due a.number ≤ table.sg + from + ahead shortest rest a.number
  pub waiting_count : (a : Sender) → In a rest → count a.number ≡ round
  pub done_gap : (a : Sender) → In a done → gap a.number ≡ table.sg + from + table.sg
  pub done_due : (a : Sender) → In a done → In a (live table hands (suc round))
      → due a.number ≤ table.sg + from + cycle shortest rest + table.sg + ahead shortest (live table hands (suc round)) a.number
  pub done_count : (a : Sender) → In a done → count a.number ≡ suc round
  pub silent : (a : Sender) → In a table.senders → length (hands a.number) ≤ round → length (hands a.number) ≤ count a.number

module _ (table : Table) (hands : ℕ → List Message) where
  pub in_live : (round : ℕ) (a : Sender) → In a table.senders → round < length (hands a.number) → In a (live table hands round)
  in_live round a i less =
      in_filter (has_more hands round) (turn_order table) a (in_sort (turn_key table.mode) table.senders a i)
      (lt-ltb round (length (hands a.number)) less)

  pub from_live : (round : ℕ) (a : Sender) → In a (live table hands round) → In a table.senders × (round < length (hands a.number))
  from_live round a i =
      let f = from_filter (has_more hands round) (turn_order table) a i in
      (from_sort (turn_key table.mode) table.senders a f.0, ltb-true round (length (hands a.number)) f.1)

  -- a sender of a round was one of the round before
  live_before : (round : ℕ) (a : Sender) → In a (live table hands (suc round)) → In a (live table hands round)
  live_before round a i =
      let f = from_live (suc round) a i in
      in_live round a f.0 (let k : suc round < length (hands a.number) = f.1 in omega arith)

  more_before : (round : ℕ) (a : Sender) → has_more hands (suc round) a ≡ true → has_more hands round a ≡ true
  more_before round a h =
      let k : suc round < length (hands a.number) = ltb-true (suc round) (length (hands a.number)) h in
      lt-ltb round (length (hands a.number)) (omega arith)

  -- the senders of the next round are those of this one that have a message left
  live_next : (round : ℕ) → live table hands (suc round) ≡ filter (has_more hands (suc round)) (live table hands round)
  live_next round = sym (filter_filter (has_more hands (suc round)) (has_more hands round) (turn_order table) (more_before round))

  -- behind a round the next one begins, one synchronization gap later
  round_on : (round from : ℕ) (list : List Entry) → Turn table hands (live table hands round) [] round from list
      → Turn table hands [] (live table hands (suc round)) (suc round) (from + table.sg) list
  round_on round from list t = record {
    e = t.e;
    end = t.end;
    due = t.due;
    gap = t.gap;
    count = t.count;
    sofar = t.sofar;
    ended = t.ended;
    split = refl;
    low = let k : t.e ≤ from = t.low in omega arith;
    waiting_gap = λ a i. t.done_gap a (live_before round a i) ∙ omega arith;
    waiting_due = λ a i.
        let k : t.due a.number ≤ table.sg + from + 0 + table.sg + ahead shortest (live table hands (suc round)) a.number =
        t.done_due a (live_before round a i) i in
        omega arith;
    waiting_count = λ a i. t.done_count a (live_before round a i);
    done_gap = λ a i. absurd i;
    done_due = λ a i. absurd i;
    done_count = λ a i. absurd i;
    silent = λ a i few. elim (cases_lt round (length (hands a.number))) [
      | inl last ↦ let k : t.count a.number ≡ suc round = t.done_count a (in_live round a i last) in omega arith
      | inr none ↦ t.silent a i none
    ];
  }

module _ (table : Table) (hands : ℕ → List Message)
    (dealt : Dealt table hands) (mode : table.mode ≡ Aperiodic) (long : AreLong table hands) where
  rises : (round : ℕ) → Rises (λ a. a.tg) (live table hands round)
  rises round =
      rises_filter (λ a. a.tg) (has_more hands round) (turn_order table)
      (subst (λ m. Rises (turn_key m) (turn_order table)) mode (order_rises table dealt.facts))

  turn : (done : List Sender) (a : Sender) (rest : List Sender) (round from : ℕ) (list : List Entry) → Turn table hands done (a ∷ rest) round from list
      → Turn table hands (done ++ a ∷ []) rest round (end_of (sends hands round a (from + a.tg))) (list ++ sends hands round a (from + a.tg) ∷ [])
  turn done a rest round from list t =
      let order : live table hands round ≡ done ++ a ∷ rest = t.split in
      let up : Rises (λ b. b.tg) (done ++ a ∷ rest) = subst (λ o. Rises (λ b. b.tg) o) order (rises round) in
      let is_live : (b : Sender) → In b (done ++ a ∷ rest) → In b table.senders × (round < length (hands b.number)) = λ b i. from_live table hands round b (subst (λ o. In b o) (sym order) i) in
      let within : (b : Sender) → In b (done ++ a ∷ rest) → In b table.senders = λ b i. (is_live b i).0 in
      let now : In a (done ++ a ∷ rest) = in_append_right done (a ∷ rest) a (inl refl) in
      let there : In a table.senders = within a now in
      let more : round < length (hands a.number) = (is_live a now).1 in
      let before : (b : Sender) → In b done → b.tg < a.tg = λ b i. rises_before (λ b. b.tg) done a rest b up i in
      let after : (b : Sender) → In b rest → a.tg < b.tg = λ b i. rises_after (λ b. b.tg) done a rest b up i in
      let same : (b : Sender) → In b table.senders → b.number ≡ a.number → b ≡ a = λ b i e. same_sender (λ c. c.number) table.senders b a (numbers_differ table dealt.facts) i there e in
      let apart_before : (b : Sender) → In b done → b.number ≢ a.number = λ b i e. let k : b.tg < a.tg = before b i in let s : b.tg ≡ a.tg = ap (λ (c : Sender). c.tg) (same b (within b (in_append_left done (a ∷ rest) b i)) e) in omega arith in
      let apart_after : (b : Sender) → In b rest → b.number ≢ a.number = λ b i e. let k : a.tg < b.tg = after b i in let s : b.tg ≡ a.tg = ap (λ (c : Sender). c.tg) (same b (within b (in_append_right done (a ∷ rest) b (inr i))) e) in omega arith in
      let least : shortest a ≤ bits (get_or (hands a.number) round []) = (message_left table hands dealt a round there more).least in
      let short : a.tg < table.sg = (of_each (SenderFacts table) table.senders dealt.facts.senders a there).tg_short in
      let q : quiet_of table ≡ table.sg = quiet_is table mode in
      let low : t.e ≤ from = t.low in
      let gap_a : t.gap a.number ≡ table.sg + from = t.waiting_gap a (inl refl) in
      let due_a : t.due a.number ≤ table.sg + from + a.tg = let h : t.due a.number ≤ table.sg + from + ahead shortest (a ∷ rest) a.number = t.waiting_due a (inl refl) in omega (arith, ahead_here shortest a rest a.number refl) in
      let x : Entry = sends hands round a (from + a.tg) in
      let takes : Takes table hands at_once t.end t.due t.gap t.count a round (from + a.tg) = record {
        ready = λ b i. let h : t.end b.number ≤ t.e = t.ended b i in omega arith;
        interval = omega arith;
        terminal = omega arith;
        first = inr (omega arith);
        others = λ b i apart. elim (cases_lt round (length (hands b.number))) [
          | inr none ↦ inr (inr (t.silent b i none))
          | inl left ↦
              elim (in_append_cases done (a ∷ rest) b (subst (λ o. In b o) order (in_live table hands round b i left))) [
                | inl spoken ↦ let g : t.gap b.number ≡ table.sg + from + table.sg = t.done_gap b spoken in inl (omega arith)
                | inr waits ↦ elim waits [
                  | inl here ↦ absurd (apart (ap (λ (c : Sender). c.number) here))
                  | inr later ↦ let g : t.gap b.number ≡ table.sg + from = t.waiting_gap b (inr later) in let k : a.tg < b.tg = after b later in inl (omega arith)
                ]
              ]
        ];
        turn = t.waiting_count a (inl refl);
      } in
      record {
        e = end_of (sends hands round a (from + a.tg));
        end = heard_end at_once (sends hands round a (from + a.tg));
        due = due_behind (quiet_of table) t.due (station table hands a) (sends hands round a (from + a.tg));
        gap = gap_from_behind (quiet_of table) table.sg at_once settled t.gap a.number (sends hands round a (from + a.tg));
        count = sent_behind t.count a.number;
        sofar = grown_step (λ _. Unit {0}) at_once (λ x. refl) table hands dealt list t.e t.end t.due t.gap t.count a round (from + a.tg) more t.sofar there (omega arith)
            (λ k none. all_heard list t.e from a.tg k t.sofar.ended low) takes;
        ended = λ b i. omega arith;
        split = order ∙ sym (append_assoc done (a ∷ []) rest);
        low = omega arith;
        waiting_gap = λ c i.
            let g : t.gap c.number ≡ table.sg + from = t.waiting_gap c (inr i) in
            gap_from_other (quiet_of table) table.sg at_once settled t.gap a.number (sends hands round a (from + a.tg)) c.number (apart_after c i)
            ∙ gap_elapsed (quiet_of table) table.sg 0 (t.gap c.number) (from + a.tg + 0) (end_of (sends hands round a (from + a.tg)) + 0) (omega arith) ∙ omega arith;
        waiting_due = λ c i.
            let g : t.due c.number ≤ table.sg + from + ahead shortest (a ∷ rest) c.number = t.waiting_due c (inr i) in
            omega (arith, put_other t.due a.number (quiet_of table + (from + a.tg) + table.ti) c.number (apart_after c i), ahead_there shortest a rest c.number (apart_after c i));
        waiting_count = λ c i. put_other t.count a.number (t.count a.number + 1) c.number (apart_after c i) ∙ t.waiting_count c (inr i);
        done_gap = λ c i. elim (in_push_cases done a c i) [
          | inl old ↦
              let g : t.gap c.number ≡ table.sg + from + table.sg = t.done_gap c old in
              gap_from_other (quiet_of table) table.sg at_once settled t.gap a.number (sends hands round a (from + a.tg)) c.number (apart_before c old)
              ∙ gap_waiting (quiet_of table) table.sg 0 (t.gap c.number) (from + a.tg + 0) (end_of (sends hands round a (from + a.tg)) + 0) (omega arith)
              ∙ sym (max_first (quiet_of table + (end_of (sends hands round a (from + a.tg)) + 0) + table.sg) (table.sg + 0) (omega arith)) ∙ omega arith
          | inr here ↦ gap_from_here (quiet_of table) table.sg at_once settled t.gap a.number (sends hands round a (from + a.tg)) c.number (ap (λ (z : Sender). z.number) here) ∙ omega arith
        ];
        done_due = λ c i next. elim (in_push_cases done a c i) [
          | inl old ↦
              let g : t.due c.number ≤ table.sg + from + cycle shortest (a ∷ rest) + table.sg + ahead shortest (live table hands (suc round)) c.number = t.done_due c old next in
              omega (arith, put_other t.due a.number (quiet_of table + (from + a.tg) + table.ti) c.number (apart_before c old))
          | inr here ↦
              let goes_on : has_more hands (suc round) a ≡ true = lt-ltb (suc round) (length (hands a.number)) (from_live table hands (suc round) a (subst (λ z. In z (live table hands (suc round))) here next)).1 in
              let kept : List Sender = filter (has_more hands (suc round)) done in
              let left : List Sender = filter (has_more hands (suc round)) rest in
              let next_is : live table hands (suc round) ≡ kept ++ a ∷ left = live_next table hands round ∙ ap (filter (has_more hands (suc round))) order ∙ filter_middle (has_more hands (suc round)) done a rest goes_on in
              let place : ahead shortest (live table hands (suc round)) c.number ≡ cycle shortest kept + a.tg = ap (λ (z : Sender). ahead shortest (live table hands (suc round)) z.number) here ∙ ap (λ o. ahead shortest o a.number) next_is
              ∙ ahead_middle shortest kept a left (λ z j s. apart_before z (from_filter (has_more hands (suc round)) done z j).0 (sym s)) in
              let whole : cycle shortest (live table hands (suc round)) ≡ cycle shortest kept + (a.tg + shortest a) + cycle shortest left = ap (cycle shortest) next_is ∙ cycle_middle shortest kept a left in
              let fewer : cycle shortest left ≤ cycle shortest rest = cycle_filter shortest (has_more hands (suc round)) rest in
              let fits : table.ti ≤ table.sg + cycle shortest (live table hands (suc round)) = subst (λ n. table.ti ≤ table.sg + n) (cycle_sum shortest (live table hands (suc round))) (long round (some_in c (live table hands (suc round)) next)) in
              omega (arith, put_here t.due a.number (quiet_of table + (from + a.tg) + table.ti) c.number (ap (λ (z : Sender). z.number) here))
        ];
        done_count = λ c i. elim (in_push_cases done a c i) [
          | inl old ↦ put_other t.count a.number (t.count a.number + 1) c.number (apart_before c old) ∙ t.done_count c old
          | inr here ↦ put_here t.count a.number (t.count a.number + 1) c.number (ap (λ (z : Sender). z.number) here) ∙ (let k : t.count a.number ≡ round = t.waiting_count a (inl refl) in omega arith)
        ];
        silent = λ c i few.
            let apart : c.number ≢ a.number = λ e. let k : length (hands c.number) ≡ length (hands a.number) = ap (λ n. length (hands n)) e in omega arith in
            omega (arith, put_other t.count a.number (t.count a.number + 1) c.number apart, t.silent c i few);
      }
    where
      all_heard : (list : List Entry) (e from tg k : ℕ) → HaveEnded list e → e ≤ from → HaveEnded (heard at_once k list) (from + tg)
      all_heard list e from tg k ended low y i = let h : end_of y ≤ e + 0 = heard_ended at_once k 0 e list (λ x j. omega arith) ended y i in omega arith

      some_in : (c : Sender) (senders : List Sender) → In c senders → 0 < length senders
      some_in c [] i = absurd i
      some_in c (b ∷ senders) i = omega arith

  turns_on : (rest done : List Sender) (round from : ℕ) (list : List Entry) → Turn table hands done rest round from list → Turn table hands (done ++ rest) [] round (turns_end hands round rest from) (list ++ turns hands round rest from)
  turns_on [] done round from list t = subst (λ d. Turn table hands d [] round from (list ++ [])) (sym (append-nil done)) (subst (λ k. Turn table hands done [] round from k) (sym (append-nil list)) t)
  turns_on (a ∷ rest) done round from list t =
      let x : Entry = sends hands round a (from + a.tg) in
      let so = turns_on rest (done ++ a ∷ []) round (end_of (sends hands round a (from + a.tg))) (list ++ sends hands round a (from + a.tg) ∷ []) (turn done a rest round from list t) in
      subst (λ d. Turn table hands d [] round (turns_end hands round (a ∷ rest) from) (list ++ turns hands round (a ∷ rest) from)) (append_assoc done (a ∷ []) rest)
      (subst (λ k. Turn table hands ((done ++ a ∷ []) ++ rest) [] round (turns_end hands round (a ∷ rest) from) k) (append_assoc list (x ∷ []) (turns hands round rest (end_of x))) so)

  at_start : Turn table hands [] (live table hands 0) 0 0 []
  at_start = record {
    e = 0;
    end = λ _. 0;
    due = λ _. table.sg;
    gap = λ k. table.sg + settled k;
    count = λ _. 0;
    ended = λ a i. omega arith;
    sofar = grown_settled (λ _. Unit {0}) at_once (λ x. refl) table hands dealt (λ _. table.sg) (λ a i. let q : quiet_of table ≡ table.sg = quiet_is table mode in let d : due_for table.mode a ≡ 0 = ap (λ m. due_for m a) mode in omega arith);
    split = refl;
    low = omega arith;
    waiting_gap = λ a i. omega arith;
    waiting_due = λ a i. omega arith;
    waiting_count = λ a i. refl;
    done_gap = λ a i. absurd i;
    done_due = λ a i. absurd i;
    done_count = λ a i. absurd i;
    silent = λ a i few. few;
  }

  pub rounds_on : (round : ℕ) → Turn table hands [] (live table hands round) round (origin hands table.sg (live table hands) round) (live_rounds table hands round)
  rounds_on zero = at_start
  rounds_on (suc round) =
      let from : ℕ = origin hands table.sg (live table hands) round in
      let so_far : List Entry = live_rounds table hands round in
      round_on table hands round (turns_end hands round (live table hands round) from) (live_rounds table hands (suc round)) (turns_on (live table hands round) [] round from so_far (rounds_on round))
