-- What a second start asks of a periodic table, on a cable: its gap is wide enough, and its sender is in sync. So the witness of a table that
-- doesn't bear some delays, or is refused, isn't lawful with them.
use Rattle.std.proofs.Common.{◌≡◌, ◌≢◌, ℕ, ◌+◌, ◌-◌, ◌*◌, ◌<◌, ◌≤◌, ◌⊎◌, true, false, cond, leb, ltb, min, List, [], ◌∷◌, ◌++◌, length, get_or, unwrap_or, Some, None, inl, inr, arith, sym, refl, ap, ◌∙◌, subst}
use Rattle.std.specs.Prelude.{IfSome}
use Rattle.std.proofs.lemmas.Bool.{cases_lt, cases_Bool, and_from, lt-ltb, leb-false, true≢false}
use Rattle.std.proofs.lemmas.List.{append-nil, append_assoc}
use Rattle.bus_timers.specs.MayStart.{MayStart, IsSync}
use Rattle.bus_strings.specs.Members.{In}
use Rattle.bus_strings.proofs.MemberLaws.{of_each, in_append_cases, in_append_left, in_append_right, in_map, from_map}
use Rattle.bus_strings.specs.Messages.{Message, Entry, bits}
use Rattle.bus_strings.specs.Transmissions.{carrier}
use Rattle.bus_table.specs.declared.mode.Mode.TheVariants.{Periodic}
use Rattle.bus_table.specs.inside.Facts.{SenderFacts}
use Rattle.bus_table.specs.Tables.{Sender, Table}
use Rattle.bus_table.specs.inside.Fillings.{filling_bits}
use Rattle.bus_table.specs.Lengths.{longest}
use Rattle.bus_table.specs.Turns.{turn_key, turn_order}
use Rattle.bus_table.specs.inside.Orders.{Differ, Rises}
use Rattle.bus_table.proofs.TurnLaws.{from_sort, order_rises, numbers_differ}
use Rattle.bus_medium.specs.BusyLaws.{IsBusy}
use Rattle.bus_medium.specs.CableLawful.{IsDueOnCable, IsLawfulOnCable}
use Rattle.bus_medium.specs.Delays.{Delays, at_once, later, heard}
use Rattle.bus_medium.specs.Past.{past, own, last_place}
use Rattle.bus_medium.specs.PastLaws.{NoneOf}
use Rattle.bus_medium.specs.Timings.{quiet_of, timing_of}
use Rattle.bus_medium.specs.Wakes.{settled}
use Rattle.bus_medium.proofs.BusyLaws.{entry_is_busy}
use Rattle.bus_medium.proofs.PastLaws.{length_past, past_at, own_more, own_later, last_push}
use Rattle.bus_regime.specs.Gaps.{Gap, latest_end, last_end, gaps_from, gaps}
use Rattle.bus_regime.proofs.GapLaws.{gap_sender}
use Rattle.bus_schedule.specs.Closed.{sends, offset_turns, offset_schedule}
use Rattle.bus_schedule.specs.Runs.{IsClear}
use Rattle.bus_schedule.specs.Slack.{slack_behind, stays}
use Rattle.bus_schedule.proofs.GapLemmas.{final, final_last}
use Rattle.bus_schedule.proofs.GapSplits.{GapAt, gap_split, last_sender, final_append}
use Rattle.bus_schedule.proofs.Growing.{Setting, sendable}
use Rattle.bus_schedule.proofs.HandLemmas.{station, stations}
use Rattle.bus_schedule.proofs.Orders.{differ_append, differ_rises, rises_after, rises_before, rises_first, rises_second, same_sender}
use Rattle.bus_schedule.proofs.SecondStarts.{busy_before, clear_apart, may_settled}
use Rattle.bus_schedule.proofs.Slacks.{never_stays, stays_here, stays_later, none_stays, places, places_here, places_later, places_within}
use Rattle.bus_schedule.proofs.Swaying.{at_below}

zero_times : (n : ℕ) → 0 * n ≡ 0
zero_times n = omega arith

one_times : (n : ℕ) → 1 * n ≡ n
one_times n = omega arith

module _ (table : Table) (messages : ℕ → List Message) (setting : Setting table messages 2) (mode : table.mode ≡ Periodic)
    (filled : (sender : Sender) (round : ℕ) → In sender table.senders → round < 2
    → bits (get_or (messages sender.number) round []) ≡ filling_bits table.mode sender) where
  long : (a : Sender) (round : ℕ) → In a table.senders → round < 2 → bits (get_or (messages a.number) round []) ≡ longest a
  long a round i less = filled a round i less ∙ ap (λ m. filling_bits m a) mode

  in_table : (a : Sender) → In a (turn_order table) → In a table.senders
  in_table a i = from_sort (turn_key table.mode) table.senders a i

  one_sender : (a b : Sender) → In a table.senders → In b table.senders → a.number ≡ b.number → a ≡ b
  one_sender a b i j e = same_sender (λ c. c.number) table.senders a b (numbers_differ table setting.dealt.facts) i j e

  -- the schedule of two rounds
  pub whole : List Entry
  whole = offset_schedule messages table.ti (turn_order table) 2

  pub whole_is : offset_schedule messages table.ti (turn_order table) 2 ≡ whole
  unfolding whole
  whole_is = refl

  in_first : (a : Sender) → In a (turn_order table) → In (sends messages 0 a (0 * table.ti + a.at)) whole
  unfolding whole
  in_first a i = in_append_left (offset_turns messages 0 (turn_order table) (0 * table.ti)) (offset_turns messages 1 (turn_order table) (1 * table.ti)) (sends messages 0 a (0 * table.ti + a.at))
      (in_map (λ s. sends messages 0 s (0 * table.ti + s.at)) (turn_order table) a i)

  in_second : (a : Sender) → In a (turn_order table) → In (sends messages 1 a (1 * table.ti + a.at)) whole
  unfolding whole
  in_second a i = in_append_right (offset_turns messages 0 (turn_order table) (0 * table.ti)) (offset_turns messages 1 (turn_order table) (1 * table.ti)) (sends messages 1 a (1 * table.ti + a.at))
      (in_map (λ s. sends messages 1 s (1 * table.ti + s.at)) (turn_order table) a i)

  -- what is in it: a sender's message of the one round or the other
  record OfSender (y : Entry) : Type 0 where
    sender : Sender
    there : In sender (turn_order table)
    number : y.terminal ≡ sender.number
    moment : (y.moment ≡ sender.at) ⊎ (y.moment ≡ table.ti + sender.at)

  of_sender : (y : Entry) → In y whole → OfSender y
  unfolding whole
  of_sender y i = elim (in_append_cases (offset_turns messages 0 (turn_order table) (0 * table.ti)) (offset_turns messages 1 (turn_order table) (1 * table.ti)) y i) [
    | inl h ↦
        let w = from_map (λ s. sends messages 0 s (0 * table.ti + s.at)) (turn_order table) y h in
        let m : 0 * table.ti + w.0.at ≡ y.moment = ap (λ (z : Entry). z.moment) w.2 in
        record { sender = w.0; there = w.1; number = sym (ap (λ (z : Entry). z.terminal) w.2); moment = inl (omega (arith, zero_times table.ti)) }
    | inr h ↦
        let w = from_map (λ s. sends messages 1 s (1 * table.ti + s.at)) (turn_order table) y h in
        let m : 1 * table.ti + w.0.at ≡ y.moment = ap (λ (z : Entry). z.moment) w.2 in
        record { sender = w.0; there = w.1; number = sym (ap (λ (z : Entry). z.terminal) w.2); moment = inr (omega (arith, one_times table.ti)) }
  ]

  -- ---- a lawful one: a sender may start a second time
  module _ (delay : Delays) (horizon : ℕ) (law : IsLawfulOnCable (quiet_of table) delay settled (stations table messages) horizon whole) (j : Sender) (there : In j (turn_order table)) where
    q : ℕ
    q = quiet_of table

    -- the moment of the second start
    t : ℕ
    t = 1 * table.ti + j.at

    hears : List Entry
    hears = heard delay j.number whole

    first_of : Entry
    first_of = sends messages 0 j (0 * table.ti + j.at)

    due_then : IsDueOnCable (quiet_of table) delay settled whole (station table messages j) (1 * table.ti + j.at)
    due_then =
        let i = in_second j there in
        (law.exact (1 * table.ti + j.at) (station table messages j) (law.sent (sends messages 1 j (1 * table.ti + j.at)) i).0 (in_map (station table messages) table.senders j (in_table j there))).0
        (record { entry = sends messages 1 j (1 * table.ti + j.at); there = i; moment = refl; terminal = refl })

    may_then : MayStart (timing_of table j) (past (quiet_of table) (heard delay j.number whole) (1 * table.ti + j.at)) (last_place (quiet_of table) (own whole j.number (1 * table.ti + j.at)))
    may_then = may_settled (quiet_of table) delay whole (station table messages j) (1 * table.ti + j.at) due_then

    last_own : last_place (quiet_of table) (own whole j.number (1 * table.ti + j.at)) ≡ Some (quiet_of table + (0 * table.ti + j.at))
    last_own =
        let x : Entry = sends messages 0 j (0 * table.ti + j.at) in
        let none : NoneOf whole j.number (0 * table.ti + j.at + 1) (1 * table.ti + j.at) = λ y i same low high.
        let o : OfSender y = of_sender y i in
        let is : o.sender ≡ j = one_sender o.sender j (in_table o.sender o.there) (in_table j there) (sym o.number ∙ same) in
        let at : o.sender.at ≡ j.at = ap (λ (s : Sender). s.at) is in
        elim o.moment [ inl e ↦ omega (arith, zero_times table.ti) | inr e ↦ omega (arith, one_times table.ti) ] in
        let ti : 1000 ≤ table.ti = setting.dealt.facts.ti_least in
        ap (last_place (quiet_of table)) (own_later whole j.number (0 * table.ti + j.at + 1) (1 * table.ti + j.at) (omega (arith, zero_times table.ti, one_times table.ti)) none
        ∙ own_more whole (sends messages 0 j (0 * table.ti + j.at)) law.ordered (in_first j there))
        ∙ last_push (quiet_of table) (own whole j.number (0 * table.ti + j.at)) (sends messages 0 j (0 * table.ti + j.at))

    -- a message that a sender hears keeps it busy
    busy : (b : Sender) (round moment : ℕ) → In b table.senders → round < 2 → In (sends messages round b moment) whole
        → IsBusy (heard delay j.number whole) (moment + delay (sends messages round b moment) j.number) (moment + delay (sends messages round b moment) j.number + longest b)
    busy b round moment i less there_x =
        let x : Entry = sends messages round b moment in
        subst (λ n. IsBusy (heard delay j.number whole) (moment + delay (sends messages round b moment) j.number) (moment + delay (sends messages round b moment) j.number + n)) (long b round i less)
        (entry_is_busy (heard delay j.number whole) (later (delay (sends messages round b moment) j.number) (sends messages round b moment))
        (in_map (λ (y : Entry). later (delay y j.number) y) whole (sends messages round b moment) there_x) (sendable table messages 2 setting b round i less).some)

    -- a start a terminal gap behind the last message at least
    quiet_last : (u : ℕ) → u < 1 * table.ti + j.at → 1 * table.ti + j.at ≤ u + j.tg → carrier (heard delay j.number whole) u ≡ false
    quiet_last u less near =
        let m : MayStart (timing_of table j) (past (quiet_of table) (heard delay j.number whole) (1 * table.ti + j.at)) (last_place (quiet_of table) (own whole j.number (1 * table.ti + j.at))) = may_then in
        let len : length (past (quiet_of table) (heard delay j.number whole) (1 * table.ti + j.at)) ≡ quiet_of table + (1 * table.ti + j.at) = length_past (quiet_of table) (heard delay j.number whole) (1 * table.ti + j.at) in
        sym (past_at (quiet_of table) (heard delay j.number whole) (1 * table.ti + j.at) u less)
        ∙ m.gap (quiet_of table + u) (omega arith) (omega arith)

    -- and behind a synchronization gap, which begins at f
    record Synchronized : Type 0 where
      f : ℕ
      own_start : j.at ≤ f
      room : f + table.sg + j.tg ≤ table.ti + j.at
      quiet : (u : ℕ) → f ≤ u → u < f + table.sg → carrier (heard delay j.number whole) u ≡ false

    synchronized : Synchronized
    synchronized =
        let m : MayStart (timing_of table j) (past (quiet_of table) (heard delay j.number whole) (1 * table.ti + j.at)) (last_place (quiet_of table) (own whole j.number (1 * table.ti + j.at))) = may_then in
        let len : length (past (quiet_of table) (heard delay j.number whole) (1 * table.ti + j.at)) ≡ quiet_of table + (1 * table.ti + j.at) = length_past (quiet_of table) (heard delay j.number whole) (1 * table.ti + j.at) in
        let e : ℕ = m.synchronized.0 in
        let fits : m.synchronized.0 + j.tg ≤ length (past (quiet_of table) (heard delay j.number whole) (1 * table.ti + j.at)) = m.synchronized.1 in
        let s : IsSync table.sg (past (quiet_of table) (heard delay j.number whole) (1 * table.ti + j.at)) (last_place (quiet_of table) (own whole j.number (1 * table.ti + j.at))) m.synchronized.0 = m.synchronized.2 in
        let long_e : table.sg ≤ m.synchronized.0 = s.long in
        let mine : IfSome (last_place (quiet_of table) (own whole j.number (1 * table.ti + j.at))) (λ start. start ≤ m.synchronized.0 - table.sg) = s.own in
        let start : quiet_of table + (0 * table.ti + j.at) ≤ m.synchronized.0 - table.sg = subst (λ o. IfSome o (λ start. start ≤ m.synchronized.0 - table.sg)) last_own mine in
        let tg : 0 < table.sg = (let k : 9 ≤ table.sg = setting.dealt.facts.sg_least in omega arith) in
        record {
          f = m.synchronized.0 - table.sg - quiet_of table;
          own_start = omega (arith, zero_times table.ti);
          room = omega (arith, one_times table.ti);
          quiet = λ u low high.
              sym (past_at (quiet_of table) (heard delay j.number whole) (1 * table.ti + j.at) u (omega arith))
              ∙ s.quiet (quiet_of table + u) (omega arith) (omega arith);
        }

    -- a walk over the gaps of other senders: each hears... this one hears each of their messages before its synchronization gap begins
    record Walked (most : ℕ) (place : ℕ → ℕ) (f base last : ℕ) (tail : List Sender) (more others : List Gap) : Type 0 where
      e : ℕ
      slack : ℕ
      at : e + table.ti ≡ last + base
      late : e + slack ≤ f
      fails : stays most table.sg j.number (Some slack) more ≡ false
      places_are : (b : Sender) → In b tail → place b.number ≡ places most table.sg (Some slack) others b.number

    segment : (most : ℕ) (place : ℕ → ℕ) → ((b : Sender) (round moment : ℕ) → delay (sends messages round b moment) j.number ≡ place b.number)
        → (s : Synchronized) (order tail : List Sender) (round base from e slack : ℕ) (more others : List Gap) (own : Gap) → round < 2
        → ((b : Sender) → In b order → In (sends messages round b (base + b.at)) whole)
        → ((b : Sender) → In b order → In b table.senders × (b.number ≢ j.number))
        → Differ (λ c. c.number) (order ++ tail)
        → ((g : Gap) → In g (gaps_from table.ti from order) → g.from ≤ g.to)
        → In own more → own.sender.number ≡ j.number
        → e + table.ti ≡ from + base → e + slack ≤ s.f
        → stays most table.sg j.number (Some slack) (gaps_from table.ti from order ++ more) ≡ false
        → ((b : Sender) → In b (order ++ tail) → place b.number ≡ places most table.sg (Some slack) (gaps_from table.ti from order ++ others) b.number)
        → Walked most place s.f base (final table.ti from order) tail more others
    segment most place hears_at s [] tail round base from e slack more others own less in_whole others_of differ wide among mine at late fails places_are =
        record { e = e; slack = slack; at = at; late = late; fails = fails; places_are = places_are }
    segment most place hears_at s (b ∷ order) tail round base from e slack more others own less in_whole others_of differ wide among mine at late fails places_are =
        let g : Gap = record { sender = b; from = from; to = table.ti + b.at } in
        let apart : b.number ≢ j.number = (others_of b (inl refl)).1 in
        let no_overlap : from ≤ table.ti + b.at = wide (record { sender = b; from = from; to = table.ti + b.at }) (inl refl) in
        let goes : stays most table.sg j.number (slack_behind most table.sg (Some slack) (record { sender = b; from = from; to = table.ti + b.at })) (gaps_from table.ti (table.ti + latest_end b) order ++ more) ≡ false =
        sym (stays_later most table.sg j.number (Some slack) (record { sender = b; from = from; to = table.ti + b.at }) (gaps_from table.ti (table.ti + latest_end b) order ++ more) apart) ∙ fails in
        elim (cases_Bool (leb (from + (slack + table.sg)) (table.ti + b.at))) [
          | inl elapses ↦
              let none : slack_behind most table.sg (Some slack) (record { sender = b; from = from; to = table.ti + b.at }) ≡ None =
              ap (λ v. cond v None (Some (min most (slack + table.sg - 1 - (table.ti + b.at - from))))) elapses in
              absurd (true≢false (sym (none_stays most table.sg j.number (gaps_from table.ti (table.ti + latest_end b) order ++ more) own
              (in_append_right (gaps_from table.ti (table.ti + latest_end b) order) more own among) mine)
              ∙ subst (λ v. stays most table.sg j.number v (gaps_from table.ti (table.ti + latest_end b) order ++ more) ≡ false) none goes))
          | inr narrow ↦
              let next : ℕ = min most (slack + table.sg - 1 - (table.ti + b.at - from)) in
              let some : slack_behind most table.sg (Some slack) (record { sender = b; from = from; to = table.ti + b.at }) ≡ Some (min most (slack + table.sg - 1 - (table.ti + b.at - from))) =
              ap (λ v. cond v None (Some (min most (slack + table.sg - 1 - (table.ti + b.at - from))))) narrow in
              let short : table.ti + b.at < from + (slack + table.sg) = leb-false (from + (slack + table.sg)) (table.ti + b.at) narrow in
              let bound : min most (slack + table.sg - 1 - (table.ti + b.at - from)) ≤ slack + table.sg - 1 - (table.ti + b.at - from) = omega arith in
              let delay_is : delay (sends messages round b (base + b.at)) j.number ≡ min most (slack + table.sg - 1 - (table.ti + b.at - from)) =
              hears_at b round (base + b.at) ∙ places_are b (inl refl)
              ∙ places_here most table.sg (Some slack) (record { sender = b; from = from; to = table.ti + b.at }) (gaps_from table.ti (table.ti + latest_end b) order ++ others) b.number refl
              ∙ ap (λ v. unwrap_or v 0) some in
              let sg : 9 ≤ table.sg = setting.dealt.facts.sg_least in
              let over : base + b.at + delay (sends messages round b (base + b.at)) j.number + longest b ≤ s.f =
              busy_before (heard delay j.number whole) (base + b.at + delay (sends messages round b (base + b.at)) j.number) (base + b.at + delay (sends messages round b (base + b.at)) j.number + longest b) s.f table.sg
              (busy b round (base + b.at) (others_of b (inl refl)).0 less (in_whole b (inl refl))) (omega arith) (omega arith) s.quiet in
              segment most place hears_at s order tail round base (table.ti + latest_end b) (base + b.at + longest b) (min most (slack + table.sg - 1 - (table.ti + b.at - from))) more others own less
              (λ c i. in_whole c (inr i)) (λ c i. others_of c (inr i)) differ.1 (λ h i. wide h (inr i)) among mine (omega arith) (omega arith)
              (subst (λ v. stays most table.sg j.number v (gaps_from table.ti (table.ti + latest_end b) order ++ more) ≡ false) some goes)
              (λ c i. places_are c (inr i)
              ∙ places_later most table.sg (Some slack) (record { sender = b; from = from; to = table.ti + b.at }) (gaps_from table.ti (table.ti + latest_end b) order ++ others) c.number (differ.0 c i)
              ∙ ap (λ v. places most table.sg v (gaps_from table.ti (table.ti + latest_end b) order ++ others) c.number) some)
        ]

  -- ---- the gap of a sender
  module _ (ahead : List Gap) (own : Gap) (behind : List Gap) (gaps_are : gaps table ≡ ahead ++ own ∷ behind) where
    stands : GapAt table.ti (last_end 0 (turn_order table)) (turn_order table) ahead own behind
    stands = gap_split table.ti (last_end 0 (turn_order table)) (turn_order table) ahead own behind gaps_are

    in_done : (b : Sender) → In b stands.done → In b (turn_order table)
    in_done b i = subst (λ o. In b o) (sym stands.split) (in_append_left stands.done (own.sender ∷ stands.rest) b i)

    in_own : In own.sender (turn_order table)
    in_own = subst (λ o. In own.sender o) (sym stands.split) (in_append_right stands.done (own.sender ∷ stands.rest) own.sender (inl refl))

    in_rest : (b : Sender) → In b stands.rest → In b (turn_order table)
    in_rest b i = subst (λ o. In b o) (sym stands.split) (in_append_right stands.done (own.sender ∷ stands.rest) b (inr i))

    up : Rises (turn_key table.mode) (stands.done ++ own.sender ∷ stands.rest)
    up = subst (λ o. Rises (turn_key table.mode) o) stands.split (order_rises table setting.dealt.facts)

    key_of : (b c : Sender) → In b (turn_order table) → In c (turn_order table) → b.number ≡ c.number → turn_key table.mode b ≡ turn_key table.mode c
    key_of b c i k e = ap (turn_key table.mode) (one_sender b c (in_table b i) (in_table c k) e)

    done_apart : (b : Sender) → In b stands.done → b.number ≢ own.sender.number
    done_apart b i e =
        let k : turn_key table.mode b < turn_key table.mode own.sender = rises_before (turn_key table.mode) stands.done own.sender stands.rest b up i in
        let l : turn_key table.mode b ≡ turn_key table.mode own.sender = key_of b own.sender (in_done b i) in_own e in omega arith

    rest_apart : (b : Sender) → In b stands.rest → b.number ≢ own.sender.number
    rest_apart b i e =
        let k : turn_key table.mode own.sender < turn_key table.mode b = rises_after (turn_key table.mode) stands.done own.sender stands.rest b up i in
        let l : turn_key table.mode b ≡ turn_key table.mode own.sender = key_of b own.sender (in_rest b i) in_own e in omega arith

    rest_differs : Differ (λ c. c.number) (stands.rest ++ stands.done)
    rest_differs =
        differ_append stands.rest stands.done
        (differ_rises (turn_key table.mode) stands.rest (rises_second (turn_key table.mode) stands.done (own.sender ∷ stands.rest) up).1
        (λ b c i k e. one_sender b c (in_table b (in_rest b i)) (in_table c (in_rest c k)) e))
        (differ_rises (turn_key table.mode) stands.done (rises_first (turn_key table.mode) stands.done (own.sender ∷ stands.rest) up)
        (λ b c i k e. one_sender b c (in_table b (in_done b i)) (in_table c (in_done c k)) e))
        (λ x y i k e.
        let a : turn_key table.mode own.sender < turn_key table.mode x = rises_after (turn_key table.mode) stands.done own.sender stands.rest x up i in
        let b : turn_key table.mode y < turn_key table.mode own.sender = rises_before (turn_key table.mode) stands.done own.sender stands.rest y up k in
        let l : turn_key table.mode x ≡ turn_key table.mode y = key_of x y (in_rest x i) (in_done y k) e in omega arith)

    among_behind : (g : Gap) → In g (gaps_from table.ti (table.ti + latest_end own.sender) stands.rest) → In g (gaps table)
    among_behind g i = subst (λ gs. In g gs) (sym gaps_are) (in_append_right ahead (own ∷ behind) g (inr (subst (λ gs. In g gs) (sym stands.behind_is) i)))

    among_ahead : (g : Gap) → In g (gaps_from table.ti (last_end 0 (turn_order table)) stands.done) → In g (gaps table)
    among_ahead g i = subst (λ gs. In g gs) (sym gaps_are) (in_append_left ahead (own ∷ behind) g (subst (λ gs. In g gs) (sym stands.ahead_is) i))

    -- the gap of no other sender is its own
    pub others_apart : (g : Gap) → In g (behind ++ ahead) → g.sender.number ≢ own.sender.number
    others_apart g i = elim (in_append_cases behind ahead g i) [
      | inl h ↦ rest_apart g.sender (gap_sender table.ti (table.ti + latest_end own.sender) stands.rest g (subst (λ gs. In g gs) stands.behind_is h))
      | inr h ↦ done_apart g.sender (gap_sender table.ti (last_end 0 (turn_order table)) stands.done g (subst (λ gs. In g gs) stands.ahead_is h))
    ]

    over_end : final table.ti (table.ti + latest_end own.sender) stands.rest ≡ table.ti + last_end 0 (turn_order table)
    over_end =
        sym (final_append table.ti (last_end 0 (turn_order table)) stands.done (own.sender ∷ stands.rest))
        ∙ ap (λ o. final table.ti (last_end 0 (turn_order table)) o) (sym stands.split)
        ∙ final_last table.ti (last_end 0 (turn_order table)) (turn_order table) own.sender in_own

    -- a sender that doesn't stay in sync isn't in sync at its second start, where the others have the places of the walk
    pub not_lacking : (wide : (g : Gap) → In g (gaps table) → g.from + g.sender.tg ≤ g.to) (most : ℕ) (place : ℕ → ℕ) (delay : Delays) (horizon : ℕ) → IsLawfulOnCable (quiet_of table) delay settled (stations table messages) horizon whole
        → ((b : Sender) (round moment : ℕ) → delay (sends messages round b moment) own.sender.number ≡ place b.number) → place own.sender.number ≡ 0
        → ((number : ℕ) → place number ≡ places most table.sg (Some 0) (behind ++ ahead) number)
        → stays most table.sg own.sender.number (Some 0) (behind ++ (ahead ++ own ∷ [])) ≡ false → ⊥
    not_lacking wide most place delay horizon law hears_at at_zero places_are fails =
        let j : Sender = own.sender in
        let F : ℕ = last_end 0 (turn_order table) in
        let s = synchronized delay horizon law own.sender in_own in
        let sg : 9 ≤ table.sg = setting.dealt.facts.sg_least in
        let own_start : own.sender.at ≤ s.f = s.own_start in
        let none : delay (sends messages 0 own.sender (0 * table.ti + own.sender.at)) own.sender.number ≡ 0 = hears_at own.sender 0 (0 * table.ti + own.sender.at) ∙ at_zero in
        let own_over : 0 * table.ti + own.sender.at + delay (sends messages 0 own.sender (0 * table.ti + own.sender.at)) own.sender.number + longest own.sender ≤ s.f =
        busy_before (heard delay own.sender.number whole) (0 * table.ti + own.sender.at + delay (sends messages 0 own.sender (0 * table.ti + own.sender.at)) own.sender.number)
        (0 * table.ti + own.sender.at + delay (sends messages 0 own.sender (0 * table.ti + own.sender.at)) own.sender.number + longest own.sender) s.f table.sg
        (busy delay horizon law own.sender in_own own.sender 0 (0 * table.ti + own.sender.at) (in_table own.sender in_own) (omega arith) (in_first own.sender in_own)) (omega arith) (omega (arith, zero_times table.ti)) s.quiet in
        let one = segment delay horizon law own.sender in_own most place hears_at s stands.rest stands.done 0 (0 * table.ti) (table.ti + latest_end own.sender) (own.sender.at + longest own.sender) 0
        (gaps_from table.ti (last_end 0 (turn_order table)) stands.done ++ own ∷ []) (gaps_from table.ti (last_end 0 (turn_order table)) stands.done) own (omega arith)
        (λ b i. in_first b (in_rest b i)) (λ b i. (in_table b (in_rest b i), rest_apart b i)) rest_differs
        (λ g i. let k : g.from + g.sender.tg ≤ g.to = wide g (among_behind g i) in omega arith)
        (in_append_right (gaps_from table.ti (last_end 0 (turn_order table)) stands.done) (own ∷ []) own (inl refl)) refl
        (omega (arith, zero_times table.ti)) (omega (arith, zero_times table.ti))
        (subst (λ gs. stays most table.sg own.sender.number (Some 0) (gs ++ (gaps_from table.ti (last_end 0 (turn_order table)) stands.done ++ own ∷ [])) ≡ false) stands.behind_is
        (subst (λ gs. stays most table.sg own.sender.number (Some 0) (behind ++ (gs ++ own ∷ [])) ≡ false) stands.ahead_is fails))
        (λ b i. places_are b.number ∙ ap (λ gs. places most table.sg (Some 0) (gs ++ ahead) b.number) stands.behind_is
        ∙ ap (λ gs. places most table.sg (Some 0) (gaps_from table.ti (table.ti + latest_end own.sender) stands.rest ++ gs) b.number) stands.ahead_is) in
        let one_at : one.e + table.ti ≡ final table.ti (table.ti + latest_end own.sender) stands.rest + 0 * table.ti = one.at in
        let ends : final table.ti (table.ti + latest_end own.sender) stands.rest ≡ table.ti + last_end 0 (turn_order table) = over_end in
        let two = segment delay horizon law own.sender in_own most place hears_at s stands.done [] 1 (1 * table.ti) (last_end 0 (turn_order table)) one.e one.slack
        (own ∷ []) [] own (omega arith)
        (λ b i. in_second b (in_done b i)) (λ b i. (in_table b (in_done b i), done_apart b i))
        (differ_append stands.done [] (differ_rises (turn_key table.mode) stands.done (rises_first (turn_key table.mode) stands.done (own.sender ∷ stands.rest) up)
        (λ b c i k e. one_sender b c (in_table b (in_done b i)) (in_table c (in_done c k)) e)) tt (λ x y i k. absurd k))
        (λ g i. let k : g.from + g.sender.tg ≤ g.to = wide g (among_ahead g i) in omega arith)
        (inl refl) refl (omega (arith, zero_times table.ti, one_times table.ti)) one.late one.fails
        (λ b i. one.places_are b (elim (in_append_cases stands.done [] b i) [ inl h ↦ h | inr h ↦ absurd h ])
        ∙ ap (λ gs. places most table.sg (Some one.slack) gs b.number) (sym (append-nil (gaps_from table.ti (last_end 0 (turn_order table)) stands.done)))) in
        let two_at : two.e + table.ti ≡ final table.ti (last_end 0 (turn_order table)) stands.done + 1 * table.ti = two.at in
        let late : two.e + two.slack ≤ s.f = two.late in
        let room : s.f + table.sg + own.sender.tg ≤ table.ti + own.sender.at = s.room in
        let little : own.to < own.from + (table.sg + own.sender.tg + two.slack) = leb-false (own.from + (table.sg + own.sender.tg + two.slack)) own.to
        (sym (stays_here most table.sg own.sender.number (Some two.slack) own [] refl) ∙ two.fails) in
        let from_is : own.from ≡ final table.ti (last_end 0 (turn_order table)) stands.done = stands.from_is in
        let to_is : own.to ≡ table.ti + own.sender.at = stands.to_is in
        omega (arith, one_times table.ti)

    -- the message before a sender's second start
    record Before : Type 0 where
      sender : Sender
      there : In sender (turn_order table)
      apart : 1 < length (turn_order table) → sender.number ≢ own.sender.number
      round : ℕ
      moment : ℕ
      less : round < 2
      sent : In (sends messages round sender moment) whole
      end : moment + longest sender ≡ own.from
      low : moment ≤ own.to
      other : (moment < own.to) ⊎ (sender.number ≢ own.sender.number)

    facts : (b : Sender) → In b (turn_order table) → SenderFacts table b
    facts b i = of_each (SenderFacts table) table.senders setting.dealt.facts.senders b (in_table b i)

    below : (b : Sender) → In b (turn_order table) → b.at < table.ti
    below b i = at_below table b mode (facts b i)

    before : Before
    before =
        by_done stands.done stands.rest stands.split stands.from_is (λ b i. i) (λ b i. i) over_end
      where
        by_done : (done rest : List Sender) → turn_order table ≡ done ++ own.sender ∷ rest → own.from ≡ final table.ti (last_end 0 (turn_order table)) done
            → ((b : Sender) → In b done → In b stands.done) → ((b : Sender) → In b rest → In b stands.rest)
            → final table.ti (table.ti + latest_end own.sender) rest ≡ table.ti + last_end 0 (turn_order table) → Before
        by_done [] [] split from_is d r ends =
            let inside : own.sender.at < table.ti = below own.sender in_own in
            record {
              sender = own.sender;
              there = in_own;
              apart = λ several. absurd (let k : length (turn_order table) ≡ 1 = ap length split in omega arith);
              low = omega (arith, zero_times table.ti, stands.to_is);
              other = inl (omega (arith, zero_times table.ti, stands.to_is));
              round = 0;
              moment = 0 * table.ti + own.sender.at;
              less = omega arith;
              sent = in_first own.sender in_own;
              end = omega (arith, zero_times table.ti);
            }
        by_done [] (a ∷ rest) split from_is d r ends =
            let w = last_sender table.ti (table.ti + latest_end own.sender) a rest in
            let e : final table.ti (table.ti + latest_end own.sender) (a ∷ rest) ≡ table.ti + latest_end w.0 = w.2 in
            let inside : w.0.at < table.ti = below w.0 (in_rest w.0 (r w.0 w.1)) in
            record {
              sender = w.0;
              there = in_rest w.0 (r w.0 w.1);
              apart = λ several. rest_apart w.0 (r w.0 w.1);
              low = omega (arith, zero_times table.ti, stands.to_is);
              other = inr (rest_apart w.0 (r w.0 w.1));
              round = 0;
              moment = 0 * table.ti + w.0.at;
              less = omega arith;
              sent = in_first w.0 (in_rest w.0 (r w.0 w.1));
              end = omega (arith, zero_times table.ti);
            }
        by_done (a ∷ done) rest split from_is d r ends =
            let w = last_sender table.ti (last_end 0 (turn_order table)) a done in
            let e : final table.ti (last_end 0 (turn_order table)) (a ∷ done) ≡ table.ti + latest_end w.0 = w.2 in
            let k : 256 * w.0.at + w.0.number < 256 * own.sender.at + own.sender.number = subst (λ m. turn_key m w.0 < turn_key m own.sender) mode
            (rises_before (turn_key table.mode) stands.done own.sender stands.rest w.0 up (d w.0 w.1)) in
            let x : own.sender.number ≤ 128 = (facts own.sender in_own).number_most in
            record {
              sender = w.0;
              there = in_done w.0 (d w.0 w.1);
              apart = λ several. done_apart w.0 (d w.0 w.1);
              low = omega (arith, one_times table.ti, stands.to_is);
              other = inr (done_apart w.0 (d w.0 w.1));
              round = 1;
              moment = 1 * table.ti + w.0.at;
              less = omega arith;
              sent = in_second w.0 (in_done w.0 (d w.0 w.1));
              end = omega (arith, one_times table.ti);
            }

    -- a sender that hears the message before its gap so much later has no terminal gap left
    pub not_narrow : (late : ℕ) (delay : Delays) (horizon : ℕ) → IsLawfulOnCable (quiet_of table) delay settled (stations table messages) horizon whole
        → 1 < length (turn_order table) → 0 < late → own.to + 1 ≡ own.from + own.sender.tg + late → 0 < own.sender.tg
        → ((b : Sender) (round moment : ℕ) → b.number ≢ own.sender.number → delay (sends messages round b moment) own.sender.number ≡ late) → ⊥
    not_narrow late delay horizon law several some width tg hears_at =
        let p = before in
        let d : delay (sends messages p.round p.sender p.moment) own.sender.number ≡ late = hears_at p.sender p.round p.moment (p.apart several) in
        let b = busy delay horizon law own.sender in_own p.sender p.round p.moment (in_table p.sender p.there) p.less p.sent in
        let end : p.moment + longest p.sender ≡ own.from = p.end in
        let to_is : own.to ≡ table.ti + own.sender.at = stands.to_is in
        true≢false (sym b.final ∙ quiet_last delay horizon law own.sender in_own (p.moment + delay (sends messages p.round p.sender p.moment) own.sender.number + longest p.sender - 1)
        (omega (arith, one_times table.ti)) (omega (arith, one_times table.ti)))

    -- without delays: a gap that is an overlap, or has no room for the terminal gap
    pub not_small : (horizon : ℕ) → IsLawfulOnCable (quiet_of table) at_once settled (stations table messages) horizon whole → IsClear whole
        → own.to < own.from + own.sender.tg → ⊥
    not_small horizon law clear small =
        let p = before in
        let end : p.moment + longest p.sender ≡ own.from = p.end in
        let to_is : own.to ≡ table.ti + own.sender.at = stands.to_is in
        let low : p.moment ≤ own.to = p.low in
        elim (cases_lt own.to own.from) [
          | inl over ↦
              let x : Entry = sends messages p.round p.sender p.moment in
              let y : Entry = sends messages 1 own.sender (1 * table.ti + own.sender.at) in
              let x_long : bits (get_or (messages p.sender.number) p.round []) ≡ longest p.sender = long p.sender p.round (in_table p.sender p.there) p.less in
              let y_some : 0 < bits (get_or (messages own.sender.number) 1 []) = (sendable table messages 2 setting own.sender 1 (in_table own.sender in_own) (omega arith)).some_bits in
              let a : ltb p.moment (1 * table.ti + own.sender.at + bits (get_or (messages own.sender.number) 1 [])) ≡ true = lt-ltb _ _ (omega (arith, one_times table.ti)) in
              let b : ltb (1 * table.ti + own.sender.at) (p.moment + bits (get_or (messages p.sender.number) p.round [])) ≡ true = lt-ltb _ _ (omega (arith, one_times table.ti)) in
              clear_apart whole (sends messages p.round p.sender p.moment) (sends messages 1 own.sender (1 * table.ti + own.sender.at)) clear p.sent (in_second own.sender in_own)
              (λ e. elim p.other [
                | inl sooner ↦ let m : p.moment ≡ 1 * table.ti + own.sender.at = ap (λ (z : Entry). z.moment) e in omega (arith, one_times table.ti)
                | inr apart ↦ apart (ap (λ (z : Entry). z.terminal) e)
              ])
              (and_from _ _ a b) (and_from _ _ b a)
          | inr fits ↦
              let b = busy at_once horizon law own.sender in_own p.sender p.round p.moment (in_table p.sender p.there) p.less p.sent in
              true≢false (sym b.final ∙ quiet_last at_once horizon law own.sender in_own (p.moment + 0 + longest p.sender - 1) (omega (arith, one_times table.ti)) (omega (arith, one_times table.ti)))
        ]

    -- and a sender that no gap synchronizes
    pub not_unsynchronized : (wide : (g : Gap) → In g (gaps table) → g.from + g.sender.tg ≤ g.to) (horizon : ℕ)
        → IsLawfulOnCable (quiet_of table) at_once settled (stations table messages) horizon whole
        → own.to < own.from + (table.sg + own.sender.tg)
        → ((other : Gap) → In other (gaps table) → other.sender.number ≢ own.sender.number → other.to < other.from + table.sg) → ⊥
    not_unsynchronized wide horizon law narrow others =
        not_lacking wide 0 (λ _. 0) at_once horizon law (λ b round moment. refl) refl
        (λ number. (let k : places 0 table.sg (Some 0) (behind ++ ahead) number ≤ 0 = places_within 0 table.sg (Some 0) (behind ++ ahead) number in omega arith))
        (ap (stays 0 table.sg own.sender.number (Some 0)) (sym (append_assoc behind ahead (own ∷ [])))
        ∙ never_stays table.sg own.sender.number (behind ++ ahead) own refl
        (λ g i. (others_apart g i, others g (among g i) (others_apart g i))) narrow)
      where
        among : (g : Gap) → In g (behind ++ ahead) → In g (gaps table)
        among g i = subst (λ gs. In g gs) (sym gaps_are) (elim (in_append_cases behind ahead g i) [
          | inl h ↦ in_append_right ahead (own ∷ behind) g (inr h)
          | inr h ↦ in_append_left ahead (own ∷ behind) g h
        ])
