-- A drill of its steps.
use Rattle.std.specs.Prelude.{◌≡◌, ℕ, ◌+◌, ◌*◌, ◌<◌, ◌≤◌, Bool, true, ◌==◌, nat_le, List, [], ◌∷◌, length, map, Result, Ok, Err, IfErr, IsErrAnd}
use Rattle.std.proofs.Common.{arith, refl, sym, ap, ◌∙◌, subst, zero, suc, ◌-◌}
use Rattle.std.specs.List.{list_all, range_with_len, AllByRecursion}
use Rattle.std.proofs.Math.Nat.{mul-le-mul_left, mul-le-mul_right}
use Rattle.std.proofs.lemmas.Bool.{and_parts, eq-eqb, leb-true, and_from}
use Rattle.std.proofs.lemmas.List.{length-map}
use Rattle.std.proofs.lemmas.List.FromFn.{length-range_with_len}
use Rattle.bus_strings.specs.Items.{Item}
use Rattle.bus_table.specs.Hands.{message_of, items_of, hand_of, are_hands}
use Rattle.bus_table.specs.Tables.{Sender, Table, Hand}
use Rattle.bus_regime.specs.Verdicts.{most_cycle, verdict_of, is_accepted}
use Rattle.bus_schedule.specs.declared.error.ScheduleError.{ScheduleError}
use Rattle.bus_schedule.specs.declared.error.ScheduleError.TheVariants.{Memory, TooLong}
use Rattle.bus_schedule.specs.Closed.{closed, closed_end}
use Rattle.bus_schedule.specs.Runs.{IsRun}
use Rattle.bus_filter.specs.ReceivedTexts.{received_count}
use Rattle.bus_strings.specs.Messages.{Entry}
use Rattle.bus_schedule.specs.Even.{rounds, are_even}
use Rattle.bus_schedule.specs.Laws.{ClosedEndsInCycles}
use Rattle.bus_schedule.specs.Limits.{IsRefused}
use Rattle.bus_vectors.specs.Made.{sender_count, round_count, made_sender, table_of, made_table, made_items}
use Rattle.bus_vectors.specs.MadeLaws.{MadeTablesAreValid, MadeItemsFit, MadeItemsAreEven}
use Rattle.bus_tool.specs.declared.drill.DrillFigures.{DrillFigures}
use Rattle.bus_tool.specs.Refusals.{Outcome}
use Rattle.bus_command.specs.declared.outcome.Outcome.TheVariants.{NoMemory}
use Rattle.bus_tool.specs.inside.Refused.{schedule_refusal}
use Rattle.bus_audit.specs.Breaches.{garbled_count}
use Rattle.bus_tool.specs.Drills.{drill_hands, drill_list, figures, drill_line}
use Rattle.bus_tool.specs.inside.Drilled.{IsDrilled, line_of}
use Rattle.bus_tool.specs.DrillLaws.{IsDrillable, DrillsAreAccepted}
use Rattle.bus_command.proofs.LawTypes.{FittingItemsGiveHands}

-- ---- what the numbers make
each_of : (p : ℕ → Bool) (a n k : ℕ) → list_all p (range_with_len a n) ≡ true → k < n → p (a + k) ≡ true
each_of p a zero k h less = absurd (omega arith)
each_of p a (suc n) zero h less = let e : a ≡ a + 0 = omega arith in subst (λ m. p m ≡ true) e (and_parts (p a) _ h).0
each_of p a (suc n) (suc k) h less =
    let e : (a + 1) + k ≡ a + suc k = omega arith in
    subst (λ m. p m ≡ true) e (each_of p (a + 1) n k (and_parts (p a) _ h).1 (omega arith))

-- of one of the counts of senders
of_count : (p : ℕ → Bool) (number : ℕ) → list_all p (range_with_len 2 30) ≡ true → p (sender_count number) ≡ true
of_count p number h =
    let e : 2 + (sender_count number - 2) ≡ sender_count number = omega arith in
    subst (λ m. p m ≡ true) e (each_of p 2 30 (sender_count number - 2) h (omega arith))

tables_accepted : list_all (λ k. is_accepted (verdict_of (table_of k))) (range_with_len 2 30) ≡ true
tables_accepted = refl

cycles_short : list_all (λ k. nat_le (most_cycle (table_of k)) 27828) (range_with_len 2 30) ≡ true
cycles_short = refl

-- hands of items of which each sender has as many
counts_are : (items : List Item) (senders : List Sender) (n : ℕ)
    → AllByRecursion (λ sender. length (items_of sender.number items) ≡ n) senders
    → list_all (λ hand. length hand.messages == n) (map (hand_of items) senders) ≡ true
counts_are items [] n h = refl
counts_are items (sender ∷ senders) n h =
    and_from _ _ (eq-eqb _ n (length-map (items_of sender.number items) (λ (item : Item). message_of sender.sends item.strings) ∙ h.0))
    (counts_are items senders n h.1)

rounds_are : (items : List Item) (senders : List Sender) (n : ℕ) → 0 < length senders
    → AllByRecursion (λ sender. length (items_of sender.number items) ≡ n) senders → rounds (map (hand_of items) senders) ≡ n
rounds_are items [] n some h = absurd (omega arith)
rounds_are items (sender ∷ senders) n some h =
    length-map (items_of sender.number items) (λ (item : Item). message_of sender.sends item.strings) ∙ h.0

pub drills_are_accepted : MadeTablesAreValid → MadeItemsFit → MadeItemsAreEven → FittingItemsGiveHands → ClosedEndsInCycles → DrillsAreAccepted
drills_are_accepted are_valid fit each give_hands ends number =
    let table : Table = made_table number in
    let items : List Item = made_items number in
    let some : 0 < length (made_table number).senders = senders_some number in
    let dealt : are_hands (made_table number).senders (drill_hands number) ≡ true = give_hands (made_table number) (made_items number) (are_valid number) (fit number).1 in
    let turns : rounds (drill_hands number) ≡ round_count number = rounds_are (made_items number) (made_table number).senders (round_count number) some (each number) in
    let counts : list_all (λ hand. length hand.messages == rounds (drill_hands number)) (drill_hands number) ≡ true =
    subst (λ n. list_all (λ (hand : Hand). length hand.messages == n) (drill_hands number) ≡ true) (sym turns)
    (counts_are (made_items number) (made_table number).senders (round_count number) (each number)) in
    let even : are_even (made_table number) (drill_hands number) ≡ true = and_from _ _ dealt counts in
    let cycle : most_cycle (made_table number) ≤ 27828 = leb-true _ _ (of_count (λ k. nat_le (most_cycle (table_of k)) 27828) number cycles_short) in
    let few : rounds (drill_hands number) ≤ 500 = omega (arith, turns) in
    let end : closed_end (made_table number) (drill_hands number) ≤ rounds (drill_hands number) * most_cycle (made_table number) =
    ends (made_table number) (drill_hands number) (are_valid number) refl even in
    let a : rounds (drill_hands number) * most_cycle (made_table number) ≤ rounds (drill_hands number) * 27828 = mul-le-mul_left (rounds (drill_hands number)) cycle in
    let b : rounds (drill_hands number) * 27828 ≤ 500 * 27828 = mul-le-mul_right 27828 few in
    record {
      valid = are_valid number;
      accepted = of_count (λ k. is_accepted (verdict_of (table_of k))) number tables_accepted;
      even = even;
      short = omega (arith, end, a, b);
    }
  where
    senders_some : (number : ℕ) → 0 < length (made_table number).senders
    senders_some number = omega (arith, length-map (range_with_len 1 (sender_count number)) made_sender, length-range_with_len 1 (sender_count number))

-- ---- the command
-- no drill is too long
pub never_long : (number : ℕ) (error : ScheduleError) (outcome : Outcome) → IsDrillable number
    → IsRefused (closed_end (made_table number) (drill_hands number)) error → outcome ≡ schedule_refusal error → outcome ≡ NoMemory
never_long number Memory outcome h r e = e
never_long number (TooLong told) outcome h r e = absurd (omega (arith, h.short, r.0))

-- the same figures
pub figures_same : (n n' k k' r r' m m' e e' c c' x x' : ℕ) → n ≡ n' → k ≡ k' → r ≡ r' → m ≡ m' → e ≡ e' → c ≡ c' → x ≡ x'
    → figures n k r m e c x ≡ figures n' k' r' m' e' c' x'
figures_same n n' k k' r r' m m' e e' c c' x x' p q s t u v w =
    ap (λ y. figures y k r m e c x) p ∙ ap (λ y. figures n' y r m e c x) q ∙ ap (λ y. figures n' k' y m e c x) s
    ∙ ap (λ y. figures n' k' r' y e c x) t ∙ ap (λ y. figures n' k' r' m' y c x) u ∙ ap (λ y. figures n' k' r' m' e' y x) v
    ∙ ap (λ y. figures n' k' r' m' e' c' y) w

-- the line of what a drill found
pub line_is : (drilled : DrillFigures) (number : ℕ) → IsDrilled drilled number → line_of drilled ≡ drill_line number
line_is drilled number h =
    figures_same drilled.number number drilled.senders (sender_count number) drilled.rounds (round_count number)
    drilled.messages (length (drill_list number)) drilled.end (closed_end (made_table number) (drill_hands number))
    drilled.collided (garbled_count (drill_list number)) drilled.received (received_count (made_table number) (drill_list number))
    h.made h.senders h.rounds h.messages h.end h.collided h.received

-- a run of it that fails wants memory
pub drill_fails : (number : ℕ) (table : Table) (hands : List Hand) (error : ScheduleError) (outcome : Outcome)
    → IsDrillable number → table ≡ made_table number → hands ≡ drill_hands number
    → IsRefused (closed_end table hands) error → outcome ≡ schedule_refusal error → outcome ≡ NoMemory
drill_fails number table hands error outcome drillable t h r e =
    never_long number error outcome drillable
    (subst (λ (hs : List Hand). IsRefused (closed_end (made_table number) hs) error) h
    (subst (λ (x : Table). IsRefused (closed_end x hands) error) t r)) e

pub fails_so : {X : Type 0} (result : Result X Outcome) (o : Outcome) → IsErrAnd result (λ came. came ≡ o) → o ≡ NoMemory
    → IfErr result (λ outcome. outcome ≡ NoMemory)
fails_so (Ok x) o h e = tt
fails_so (Err came) o h e = h ∙ e

-- a run of it that doesn't fail finds the figures
pub drill_finds : (number : ℕ) (table : Table) (hands : List Hand) (list heard : List Entry) (drilled : DrillFigures)
    → table ≡ made_table number → hands ≡ drill_hands number → IsRun table hands list
    → drilled.number ≡ number → drilled.senders ≡ sender_count number → drilled.rounds ≡ round_count number
    → drilled.messages ≡ length list → drilled.end ≡ closed_end table hands → drilled.collided ≡ garbled_count list
    → heard ≡ list → drilled.received ≡ received_count table heard → IsDrilled drilled number
drill_finds number table hands list heard drilled t h run made senders rounds messages end collided heard_is received =
    let all : list ≡ drill_list number =
    run.closed ∙ ap (λ (x : Table). closed x hands) t ∙ ap (λ (hs : List Hand). closed (made_table number) hs) h in
    record {
      made = made;
      senders = senders;
      rounds = rounds;
      messages = messages ∙ ap length all;
      end = end ∙ ap (λ (x : Table). closed_end x hands) t ∙ ap (λ (hs : List Hand). closed_end (made_table number) hs) h;
      collided = collided ∙ ap garbled_count all;
      received = received ∙ ap (received_count table) heard_is ∙ ap (λ (x : Table). received_count x list) t ∙ ap (λ (l : List Entry). received_count (made_table number) l) all;
    }
