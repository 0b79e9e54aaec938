-- With two rounds of filling messages the closed schedule of a refused table isn't lawful, or two of its transmissions overlap. In aperiodic
-- mode the first sender in turn order isn't due at its second start.
use Rattle.std.proofs.Common.{◌≡◌, ℕ, ◌+◌, ◌<◌, ◌≤◌, List, [], ◌∷◌, ◌++◌, length, map, get_or, Some, inl, inr, ◌⊎◌}
use Rattle.std.proofs.Common.{arith, sym, refl, ap, ◌∙◌, subst}
use Rattle.std.proofs.lemmas.Bool.{cases_lt}
use Rattle.bus_timers.specs.Timings.{due_place}
use Rattle.bus_strings.specs.Members.{In}
use Rattle.bus_strings.proofs.MemberLaws.{in_append_cases, in_append_left, in_append_right, in_map}
use Rattle.bus_strings.specs.Messages.{Message, Entry, bits}
use Rattle.bus_strings.specs.Transmissions.{end_of, IsAscending}
use Rattle.bus_table.specs.declared.mode.Mode.TheVariants.{Aperiodic, Periodic}
use Rattle.bus_table.specs.inside.Fillings.{filling_bits}
use Rattle.bus_table.specs.Lengths.{shortest}
use Rattle.bus_table.specs.Tables.{Sender, Table}
use Rattle.bus_table.specs.Turns.{turn_key, turn_order}
use Rattle.bus_table.specs.inside.Orders.{Rises}
use Rattle.bus_table.proofs.TurnLaws.{from_sort, in_sort, order_rises, numbers_differ}
use Rattle.bus_medium.specs.CableLawful.{IsLawfulOnCable}
use Rattle.bus_medium.specs.Delays.{at_once}
use Rattle.bus_medium.specs.Lawful.{Station, IsDue, IsLawful}
use Rattle.bus_medium.specs.Past.{past, own, last_place}
use Rattle.bus_medium.specs.PastLaws.{NoneOf}
use Rattle.bus_medium.specs.Timings.{quiet_of, timing_of}
use Rattle.bus_medium.specs.Wakes.{settled}
use Rattle.bus_medium.proofs.Hearing.{no_delay_is_the_bus, none_at_once}
use Rattle.bus_medium.proofs.PastLaws.{length_past, own_more, own_later, last_push}
use Rattle.bus_regime.specs.inside.Fine.{HasSmall, HasUnsynchronized}
use Rattle.bus_regime.specs.Gaps.{Gap, gaps}
use Rattle.bus_regime.specs.Verdicts.{least_cycle}
use Rattle.bus_schedule.specs.Closed.{sends, turns, turns_end, gap_schedule, offset_schedule}
use Rattle.bus_schedule.specs.Runs.{IsClear}
use Rattle.bus_schedule.proofs.Breaking.{whole, whole_is, not_small, not_unsynchronized}
use Rattle.bus_schedule.proofs.Growing.{Setting}
use Rattle.bus_schedule.proofs.HandLemmas.{station, stations}
use Rattle.bus_schedule.proofs.Orders.{rises_after, same_sender}
use Rattle.bus_schedule.proofs.Spacing.{cycle, cycle_sum, cycle_sort, LeadsMore, lead_more, lengths, turns_end_cycle}

-- where one of a list stands
record StandsIn (gs : List Gap) (g : Gap) : Type 0 where
  ahead : List Gap
  behind : List Gap
  split : gs ≡ ahead ++ g ∷ behind

stands_in : (gs : List Gap) (g : Gap) → In g gs → StandsIn gs g
stands_in [] g i = absurd i
stands_in (h ∷ gs) g (inl same) = record { ahead = []; behind = gs; split = ap (λ k. k ∷ gs) (sym same) }
stands_in (h ∷ gs) g (inr i) =
    let w = stands_in gs g i in record { ahead = h ∷ w.ahead; behind = w.behind; split = ap (λ k. h ∷ k) w.split }

-- some gap is small, or none
small_or_wide : (gs : List Gap) → HasSmall gs ⊎ ((g : Gap) → In g gs → g.from + g.sender.tg ≤ g.to)
small_or_wide [] = inr (λ g i. absurd i)
small_or_wide (h ∷ gs) = elim (cases_lt h.to (h.from + h.sender.tg)) [
  | inl small ↦ inl (record { gap = h; among = inl refl; small = small })
  | inr fits ↦ elim (small_or_wide gs) [
    | inl s ↦ inl (record { gap = s.gap; among = inr s.among; small = s.small })
    | inr all ↦ inr (λ g i. elim i [
      | inl same ↦ subst (λ (k : Gap). k.from + k.sender.tg ≤ k.to) (sym same) (omega arith)
      | inr j ↦ all g j
    ])
  ]
]

module _ (table : Table) (messages : ℕ → List Message) (setting : Setting table messages 2)
    (filled : (sender : Sender) (round : ℕ) → In sender table.senders → round < 2
    → bits (get_or (messages sender.number) round []) ≡ filling_bits table.mode sender) where
  in_table : (a : Sender) → In a (turn_order table) → In a table.senders
  in_table a i = from_sort (turn_key table.mode) table.senders a i

  -- ---- periodic: at the second start of the sender of a gap
  pub gaps_hold : table.mode ≡ Periodic → (horizon : ℕ) → HasSmall (gaps table) ⊎ HasUnsynchronized table.sg (gaps table)
      → IsLawful (quiet_of table) (stations table messages) horizon (offset_schedule messages table.ti (turn_order table) 2)
      → IsClear (offset_schedule messages table.ti (turn_order table) 2) → ⊥
  gaps_hold mode horizon why law clear = elim (small_or_wide (gaps table)) [
    | inl s ↦ small s
    | inr wide ↦ elim why [
      | inl s ↦ small s
      | inr u ↦
          let at : StandsIn (gaps table) u.gap = stands_in (gaps table) u.gap u.among in
          not_unsynchronized table messages setting mode filled at.ahead u.gap at.behind at.split wide horizon on_cable u.narrow u.others
    ]
  ]
    where
      on_cable : IsLawfulOnCable (quiet_of table) at_once settled (stations table messages) horizon (whole table messages setting mode filled)
      on_cable = subst (IsLawfulOnCable (quiet_of table) at_once settled (stations table messages) horizon) (whole_is table messages setting mode filled)
          ((no_delay_is_the_bus (quiet_of table) at_once settled (stations table messages) horizon (offset_schedule messages table.ti (turn_order table) 2)
          (none_at_once (map (λ (s : Station). s.number) (stations table messages))) (λ s i. refl)).1 law)

      small : HasSmall (gaps table) → ⊥
      small s =
          let at : StandsIn (gaps table) s.gap = stands_in (gaps table) s.gap s.among in
          not_small table messages setting mode filled at.ahead s.gap at.behind at.split horizon on_cable
          (subst IsClear (whole_is table messages setting mode filled) clear) s.small

  -- ---- aperiodic: at the second start of the first sender in turn order
  turns_from : (order : List Sender) (round from : ℕ) (y : Entry) → In y (turns messages round order from)
      → (b : Sender) × (moment : ℕ) × In b order × (y ≡ sends messages round b moment)
  turns_from [] round from y i = absurd i
  turns_from (a ∷ order) round from y (inl same) = (a, from + a.tg, inl refl, same)
  turns_from (a ∷ order) round from y (inr i) = let w = turns_from order round (end_of (sends messages round a (from + a.tg))) y i in
      (w.0, w.1, inr w.2, w.3)

  short : table.mode ≡ Aperiodic → (a : Sender) → In a (turn_order table) → lengths messages 0 a ≤ shortest a
  short mode a i = omega (arith, filled a 0 (in_table a i) (omega arith) ∙ ap (λ m. filling_bits m a) mode)

  module _ (a : Sender) (order : List Sender) (e : turn_order table ≡ a ∷ order) where
    within : (b : Sender) → In b (a ∷ order) → In b table.senders
    within b i = in_table b (subst (λ o. In b o) (sym e) i)

    apart : (b : Sender) → In b order → b.number ≡ a.number → ⊥
    apart b i same =
        let up : Rises (turn_key table.mode) (a ∷ order) = subst (λ o. Rises (turn_key table.mode) o) e (order_rises table setting.dealt.facts) in
        let is : b ≡ a = same_sender (λ s. s.number) table.senders b a (numbers_differ table setting.dealt.facts) (within b (inr i)) (within a (inl refl)) same in
        let k : turn_key table.mode a < turn_key table.mode b = rises_after (turn_key table.mode) [] a order b up i in
        let l : turn_key table.mode b ≡ turn_key table.mode a = ap (turn_key table.mode) is in omega arith

    -- the moment of its second start
    abbrev start : ℕ
    start = turns_end messages 0 (a ∷ order) 0 + table.sg + a.tg

    abbrev list : List Entry
    list = gap_schedule messages table.sg (λ round. a ∷ order) 2

    first_of : In (sends messages 0 a (0 + a.tg)) list
    first_of = in_append_left (turns messages 0 (a ∷ order) 0) (turns messages 1 (a ∷ order) (turns_end messages 0 (a ∷ order) 0 + table.sg)) (sends messages 0 a (0 + a.tg)) (inl refl)

    pub second_of : In (sends messages 1 a start) list
    second_of = in_append_right (turns messages 0 (a ∷ order) 0) (turns messages 1 (a ∷ order) (turns_end messages 0 (a ∷ order) 0 + table.sg)) (sends messages 1 a start) (inl refl)

    between : NoneOf list a.number (0 + a.tg + 1) start
    between y i same low high = elim (in_append_cases (turns messages 0 (a ∷ order) 0) (turns messages 1 (a ∷ order) (turns_end messages 0 (a ∷ order) 0 + table.sg)) y i) [
      | inl h ↦ elim h [
        | inl is ↦ let m : y.moment ≡ 0 + a.tg = ap (λ (z : Entry). z.moment) is in omega arith
        | inr j ↦
            let w = turns_from order 0 (end_of (sends messages 0 a (0 + a.tg))) y j in
            apart w.0 w.2 (sym (ap (λ (z : Entry). z.terminal) w.3) ∙ same)
      ]
      | inr h ↦ elim h [
        | inl is ↦ let m : y.moment ≡ turns_end messages 0 (a ∷ order) 0 + table.sg + a.tg = ap (λ (z : Entry). z.moment) is in omega arith
        | inr j ↦
            let w = turns_from order 1 (end_of (sends messages 1 a (turns_end messages 0 (a ∷ order) 0 + table.sg + a.tg))) y j in
            apart w.0 w.2 (sym (ap (λ (z : Entry). z.terminal) w.3) ∙ same)
      ]
    ]

    behind : 0 + a.tg + 1 ≤ start
    behind = let sg : 9 ≤ table.sg = setting.dealt.facts.sg_least in omega arith

    last_own : IsAscending list → last_place (quiet_of table) (own list a.number start) ≡ Some (quiet_of table + (0 + a.tg))
    last_own ascends =
        ap (last_place (quiet_of table)) (own_later list a.number (0 + a.tg + 1) start behind between
        ∙ own_more list (sends messages 0 a (0 + a.tg)) ascends first_of)
        ∙ last_push (quiet_of table) (own list a.number (0 + a.tg)) (sends messages 0 a (0 + a.tg))

    -- its transmit interval hasn't elapsed by then
    pub early : table.mode ≡ Aperiodic → least_cycle table < table.ti → IsAscending list
        → IsDue (quiet_of table) list (station table messages a) start → ⊥
    early mode less ascends due =
        let interval : due_place (timing_of table a) (last_place (quiet_of table) (own list a.number start)) ≤ length (past (quiet_of table) list start) = due.may.interval in
        let place : due_place (timing_of table a) (last_place (quiet_of table) (own list a.number start)) ≡ quiet_of table + (0 + a.tg) + table.ti =
        ap (due_place (timing_of table a)) (last_own ascends) in
        let long : length (past (quiet_of table) list start) ≡ quiet_of table + start = length_past (quiet_of table) list start in
        let end_is : turns_end messages 0 (a ∷ order) 0 ≡ 0 + cycle (lengths messages 0) (a ∷ order) = turns_end_cycle messages 0 (a ∷ order) 0 in
        let shorter : LeadsMore (lengths messages 0) shortest (a ∷ order) 0 = lead_more (lengths messages 0) shortest (a ∷ order) 0
        (λ b i. short mode b (subst (λ o. In b o) (sym e) i)) in
        let most : cycle (lengths messages 0) (a ∷ order) ≤ cycle shortest (a ∷ order) = shorter.whole in
        let sum : least_cycle table ≡ table.sg + cycle shortest (a ∷ order) =
        ap (λ n. table.sg + n) (cycle_sum shortest table.senders ∙ sym (cycle_sort shortest (turn_key table.mode) table.senders)
        ∙ ap (cycle shortest) e) in
        omega arith

  pub cycle_holds : (order : List Sender) → turn_order table ≡ order → (horizon : ℕ) → table.mode ≡ Aperiodic → least_cycle table < table.ti
      → IsLawful (quiet_of table) (stations table messages) horizon (gap_schedule messages table.sg (λ round. order) 2) → ⊥
  cycle_holds [] e horizon mode less law =
      absurd (none table.senders setting.dealt.facts.some (λ a i. subst (λ o. In a o) e (in_sort (turn_key table.mode) table.senders a i)))
    where
      none : (senders : List Sender) → 0 < length senders → ((a : Sender) → In a senders → ⊥) → ⊥
      none [] some h = omega arith
      none (a ∷ senders) some h = h a (inl refl)
  cycle_holds (a ∷ order) e horizon mode less law =
      let i = second_of a order e in
      early a order e mode less law.ordered
      ((law.exact (turns_end messages 0 (a ∷ order) 0 + table.sg + a.tg) (station table messages a)
      (law.sent (sends messages 1 a (turns_end messages 0 (a ∷ order) 0 + table.sg + a.tg)) i).0
      (in_map (station table messages) table.senders a (within a order e a (inl refl)))).0
      (record { entry = sends messages 1 a (turns_end messages 0 (a ∷ order) 0 + table.sg + a.tg); there = i; moment = refl; terminal = refl }))
