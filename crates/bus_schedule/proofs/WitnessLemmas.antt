-- The hands of the witness: they are even, and end within the limit; and by them the verdict accepts exactly the settled tables.
use Rattle.std.proofs.Common.{◌≡◌, ℕ, zero, suc, ◌<◌, true, false, List, [], ◌∷◌, length, get_or}
use Rattle.std.proofs.Common.{map, inl, inr, arith, sym, refl, ap, ◌∙◌, subst}
use Rattle.std.specs.Prelude.{Bool, ◌+◌, ◌==◌, IsTrue, IsOk, slice_get}
use Rattle.std.specs.List.{list_all}
use Rattle.std.proofs.lemmas.Bool.{and_from, eq-eqb}
use Rattle.bus_strings.specs.Items.{Item}
use Rattle.bus_strings.proofs.MemberLaws.{in_map}
use Rattle.bus_strings.specs.Transmissions.{IsAscending}
use Rattle.bus_strings.specs.Members.{In}
use Rattle.bus_strings.specs.Messages.{Message, bits}
use Rattle.bus_table.specs.declared.mode.Mode.{Mode}
use Rattle.bus_table.specs.declared.mode.Mode.TheVariants.{Aperiodic, Periodic}
use Rattle.bus_table.specs.inside.Facts.{TableFacts}
use Rattle.bus_table.specs.Filling.{filling_message}
use Rattle.bus_table.specs.inside.Fillings.{filling_bits}
use Rattle.bus_table.proofs.FillingLaws.{filling_length}
use Rattle.bus_table.specs.Fits.{items_fit}
use Rattle.bus_table.specs.Hands.{hand_of, GiveHands}
use Rattle.bus_table.specs.Tables.{Sender, Table, Hand}
use Rattle.bus_table.specs.Turns.{turn_key, turn_order}
use Rattle.bus_table.specs.inside.Orders.{Differ}
use Rattle.bus_table.proofs.TurnLaws.{from_sort, in_sort, length-sort, numbers_differ}
use Rattle.bus_table.specs.Valid.{is_valid}
use Rattle.bus_table.proofs.ValidLaws.{valid_facts}
use Rattle.bus_medium.specs.Lawful.{IsDue, IsLawful}
use Rattle.bus_medium.specs.Timings.{quiet_of}
use Rattle.bus_regime.specs.Verdicts.{verdict_of, is_accepted}
use Rattle.bus_regime.proofs.VerdictLaws.{refused_cycle, refused_gaps}
use Rattle.bus_regime.specs.Witness.{witness_of}
use Rattle.bus_regime.proofs.WitnessLaws.{witness_fits, witness_hand}
use Rattle.bus_schedule.specs.Closed.{closed, closed_end, gap_schedule, schedule_in, sends, turns, turns_end}
use Rattle.bus_schedule.specs.Even.{messages_of, rounds}
use Rattle.bus_schedule.specs.Laws.{AcceptedIsClosed, ShortCyclesStartEarly, StartsTooEarly, TheSettledAreAccepted, TheRefusedFail, WitnessesAreEven}
use Rattle.bus_schedule.specs.Runs.{IsClear}
use Rattle.bus_schedule.specs.Settled.{Happens, IsKept, IsSettled, witness_hands}
use Rattle.bus_schedule.proofs.Growing.{Setting}
use Rattle.bus_schedule.proofs.HandLaws.{hand_here, hand_there}
use Rattle.bus_schedule.proofs.HandLemmas.{station, stations}
use Rattle.bus_schedule.proofs.Meeting.{clear_or_overlap}
use Rattle.bus_schedule.proofs.Places.{get_right, turns_are_round}
use Rattle.bus_schedule.proofs.Refusing.{gaps_hold, cycle_holds, early}
use Rattle.bus_schedule.proofs.RunLemmas.{closed_is_orderly, setting_of, stations_of_even}

-- items that fit a valid table give hands
abbrev pub GivesHands : Type 0
GivesHands = (table : Table) (items : List Item) → IsTrue (is_valid table) → IsOk (items_fit table items) → GiveHands table items

-- the hand of a sender among those of items
messages_are : (items : List Item) (senders : List Sender) (sender : Sender) → Differ (λ s. s.number) senders → In sender senders
    → messages_of (map (hand_of items) senders) sender.number ≡ (hand_of items sender).messages
messages_are items [] sender d i = absurd i
messages_are items (s ∷ senders) sender d (inl same) =
    hand_here (hand_of items s) (map (hand_of items) senders) sender.number (ap (λ (x : Sender). x.number) (sym same))
    ∙ ap (λ (x : Sender). (hand_of items x).messages) (sym same)
messages_are items (s ∷ senders) sender d (inr i) =
    hand_there (hand_of items s) (map (hand_of items) senders) sender.number (λ e. d.0 sender i e) ∙ messages_are items senders sender d.1 i

-- two filling messages
pub witness_messages : (table : Table) (sender : Sender) → TableFacts table → In sender table.senders
    → messages_of (witness_hands table) sender.number ≡ filling_message table.mode sender ∷ (filling_message table.mode sender ∷ [])
witness_messages table sender facts i =
    messages_are (witness_of table) table.senders sender (numbers_differ table facts) i ∙ witness_hand table sender facts i

two_each : (items : List Item) (senders : List Sender) (n : ℕ)
    → ((sender : Sender) → In sender senders → length (hand_of items sender).messages ≡ n)
    → list_all (λ hand. length hand.messages == n) (map (hand_of items) senders) ≡ true
two_each items [] n h = refl
two_each items (s ∷ senders) n h = and_from _ _ (eq-eqb (length (hand_of items s).messages) n (h s (inl refl)))
    (two_each items senders n (λ x i. h x (inr i)))

rounds_are : (items : List Item) (senders : List Sender) (n : ℕ) → 0 < length senders
    → ((sender : Sender) → In sender senders → length (hand_of items sender).messages ≡ n) → rounds (map (hand_of items) senders) ≡ n
rounds_are items [] n some h = absurd (omega arith)
rounds_are items (s ∷ senders) n some h = h s (inl refl)

counts : (table : Table) → TableFacts table → (sender : Sender) → In sender table.senders
    → length (hand_of (witness_of table) sender).messages ≡ 2
counts table facts sender i = ap length (witness_hand table sender facts i)

pub two_rounds : (table : Table) → TableFacts table → rounds (witness_hands table) ≡ 2
two_rounds table facts = rounds_are (witness_of table) table.senders 2 facts.some (counts table facts)

pub witnesses_are_even : GivesHands → WitnessesAreEven
witnesses_are_even give table valid =
    let facts = valid_facts table valid in
    and_from _ _ (give table (witness_of table) valid (witness_fits table facts))
    (subst (λ n. list_all (λ hand. length hand.messages == n) (witness_hands table) ≡ true) (sym (two_rounds table facts))
    (two_each (witness_of table) table.senders 2 (counts table facts)))

-- how long they are
pub filled : (table : Table) → TableFacts table → (sender : Sender) (round : ℕ) → In sender table.senders → round < 2
    → bits (get_or (messages_of (witness_hands table) sender.number) round []) ≡ filling_bits table.mode sender
filled table facts sender zero i less = ap (λ (hand : List Message). bits (get_or hand 0 [])) (witness_messages table sender facts i)
    ∙ filling_length table.mode sender
filled table facts sender (suc zero) i less = ap (λ (hand : List Message). bits (get_or hand 1 [])) (witness_messages table sender facts i)
    ∙ filling_length table.mode sender
filled table facts sender (suc (suc round)) i less = absurd (omega arith)

module _ (give : GivesHands) where
  not_lawful : (table : Table) (mode : Mode) → table.mode ≡ mode → IsTrue (is_valid table) → is_accepted (verdict_of table) ≡ false
      → (horizon : ℕ)
      → IsLawful (quiet_of table) (stations table (messages_of (witness_hands table))) horizon
      (schedule_in mode table (messages_of (witness_hands table)) 2)
      → IsClear (schedule_in mode table (messages_of (witness_hands table)) 2) → ⊥
  not_lawful table Aperiodic is valid refused horizon law clear =
      let facts = valid_facts table valid in
      let hands : List Hand = witness_hands table in
      let setting : Setting table (messages_of (witness_hands table)) 2 = subst (Setting table (messages_of (witness_hands table)))
      (two_rounds table facts) (setting_of table (witness_hands table) valid (witnesses_are_even give table valid)) in
      cycle_holds table (messages_of (witness_hands table)) setting (filled table facts) (turn_order table) refl horizon is (refused_cycle table is refused) law
  not_lawful table Periodic is valid refused horizon law clear =
      let facts = valid_facts table valid in
      let setting : Setting table (messages_of (witness_hands table)) 2 = subst (Setting table (messages_of (witness_hands table)))
      (two_rounds table facts) (setting_of table (witness_hands table) valid (witnesses_are_even give table valid)) in
      gaps_hold table (messages_of (witness_hands table)) setting (filled table facts) is horizon
      (refused_gaps table is refused) law clear

  -- the closed schedule of a refused table's witness isn't both
  not_both : (table : Table) → IsTrue (is_valid table) → is_accepted (verdict_of table) ≡ false
      → Happens table (witness_hands table) (closed table (witness_hands table))
      → IsClear (closed table (witness_hands table)) → ⊥
  not_both table valid refused law clear =
      let hands : List Hand = witness_hands table in
      let two : closed table (witness_hands table) ≡ schedule_in table.mode table (messages_of (witness_hands table)) 2 =
      ap (schedule_in table.mode table (messages_of (witness_hands table))) (two_rounds table (valid_facts table valid)) in
      not_lawful table table.mode refl valid refused (closed_end table (witness_hands table))
      (subst (λ l. IsLawful (quiet_of table) (stations table (messages_of (witness_hands table))) (closed_end table (witness_hands table))
      l) two
      (subst (λ ss. IsLawful (quiet_of table) ss (closed_end table (witness_hands table)) (closed table (witness_hands table)))
      (stations_of_even table (witness_hands table) valid (witnesses_are_even give table valid)) law))
      (subst IsClear two clear)

  pub the_refused_fail : TheRefusedFail
  the_refused_fail table valid refused = elim (clear_or_overlap (closed table (witness_hands table))) [
    | inl clear ↦ inl (λ law. not_both table valid refused law clear)
    | inr overlap ↦ inr overlap
  ]

  -- at the second start of the first sender, where the cycle is too short
  pub short_cycles_start_early : ShortCyclesStartEarly
  short_cycles_start_early table valid mode refused = by_order (turn_order table) refl
    where
      setting : Setting table (messages_of (witness_hands table)) 2
      setting = subst (Setting table (messages_of (witness_hands table))) (two_rounds table (valid_facts table valid))
          (setting_of table (witness_hands table) valid (witnesses_are_even give table valid))

      none : (senders : List Sender) → 0 < length senders → ((a : Sender) → In a senders → ⊥) → ⊥
      none [] some h = omega arith
      none (a ∷ senders) some h = h a (inl refl)

      by_order : (order : List Sender) → turn_order table ≡ order → StartsTooEarly table
      by_order [] e = absurd (none table.senders (valid_facts table valid).some (λ a i. subst (λ o. In a o) e (in_sort (turn_key table.mode) table.senders a i)))
      by_order (a ∷ order) e =
          let hands : List Hand = witness_hands table in
          let from : ℕ = turns_end (messages_of (witness_hands table)) 0 (a ∷ order) 0 + table.sg in
          let two : closed table (witness_hands table) ≡ gap_schedule (messages_of (witness_hands table)) table.sg (λ _. a ∷ order) 2 =
          ap (λ m. schedule_in m table (messages_of (witness_hands table)) (rounds (witness_hands table))) mode
          ∙ ap (gap_schedule (messages_of (witness_hands table)) table.sg (λ _. turn_order table)) (two_rounds table (valid_facts table valid))
          ∙ ap (λ o. gap_schedule (messages_of (witness_hands table)) table.sg (λ _. o) 2) e in
          let long : length (turns (messages_of (witness_hands table)) 0 (a ∷ order) 0) ≡ length table.senders =
          (turns_are_round (messages_of (witness_hands table)) 0 (a ∷ order) 0).whole ∙ ap length (sym e) ∙ length-sort (turn_key table.mode) table.senders in
          record {
            first = a;
            in_turn = ap (λ o. slice_get o 0) e;
            again = sends (messages_of (witness_hands table)) 1 a (turns_end (messages_of (witness_hands table)) 0 (a ∷ order) 0 + table.sg + a.tg);
            at = ap (λ l. slice_get l (length table.senders)) two
                ∙ ap (slice_get (gap_schedule (messages_of (witness_hands table)) table.sg (λ _. a ∷ order) 2)) (let k : length table.senders ≡ length table.senders + 0 = omega arith in k)
                ∙ get_right (turns (messages_of (witness_hands table)) 0 (a ∷ order) 0)
                (turns (messages_of (witness_hands table)) 1 (a ∷ order) (turns_end (messages_of (witness_hands table)) 0 (a ∷ order) 0 + table.sg)) (length table.senders) 0 long;
            terminal = refl;
            early = λ s there same due.
                let mine : In s (stations table (messages_of (witness_hands table))) = subst (In s) (stations_of_even table (witness_hands table) valid (witnesses_are_even give table valid)) there in
                let own : In (station table (messages_of (witness_hands table)) a) (stations table (messages_of (witness_hands table))) =
                in_map (station table (messages_of (witness_hands table))) table.senders a (from_sort (turn_key table.mode) table.senders a (subst (λ o. In a o) (sym e) (inl refl))) in
                let is : s ≡ station table (messages_of (witness_hands table)) a = setting.dealt.numbers s (station table (messages_of (witness_hands table)) a) mine own same in
                early table (messages_of (witness_hands table)) setting (filled table (valid_facts table valid)) a order e mode (refused_cycle table mode refused)
                (subst IsAscending two (closed_is_orderly table (witness_hands table) valid (witnesses_are_even give table valid)).ascends)
                (subst (λ l. IsDue (quiet_of table) l (station table (messages_of (witness_hands table)) a) (turns_end (messages_of (witness_hands table)) 0 (a ∷ order) 0 + table.sg + a.tg)) two
                (subst (λ w. IsDue (quiet_of table) (closed table (witness_hands table)) w (turns_end (messages_of (witness_hands table)) 0 (a ∷ order) 0 + table.sg + a.tg)) is due));
          }

  pub the_settled_are_accepted : AcceptedIsClosed → TheSettledAreAccepted
  the_settled_are_accepted runs table valid = (
    (λ accepted hands even. (let run = runs table hands valid accepted even in record { lawful = run.lawful; clear = run.clear })),
    (λ is_settled. accepts is_settled (is_accepted (verdict_of table)) refl),
  )
    where
      accepts : IsSettled table → (b : Bool) → is_accepted (verdict_of table) ≡ b → is_accepted (verdict_of table) ≡ true
      accepts is_settled true e = e
      accepts is_settled false e = (let kept : IsKept table (witness_hands table) = is_settled (witness_hands table)
          (witnesses_are_even give table valid) in absurd (not_both table valid e kept.lawful kept.clear))
