-- The closed schedule of even hands is orderly, and of an accepted table it is the run.
use Rattle.std.proofs.Common.{◌≡◌, ℕ, suc, ◌+◌, ◌*◌, ◌/◌, ◌%◌, ◌<◌, ◌≤◌, List, [], length, map, get_or, Some, arith, sym, refl, ap, ◌∙◌, subst}
use Rattle.std.specs.Prelude.{slice_get, IsTrue}
use Rattle.std.proofs.lemmas.Bool.{and_parts}
use Rattle.std.proofs.lemmas.Nat.{div-add-mod'}
use Rattle.bus_strings.specs.Marking.{greatest_end}
use Rattle.bus_strings.specs.Members.{In}
use Rattle.bus_strings.specs.Messages.{Entry}
use Rattle.bus_strings.specs.Transmissions.{IsAscending}
use Rattle.bus_table.specs.declared.mode.Mode.{Mode}
use Rattle.bus_table.specs.declared.mode.Mode.TheVariants.{Aperiodic, Periodic}
use Rattle.bus_table.specs.Tables.{Sender, Table, Hand, sender_numbers}
use Rattle.bus_table.specs.inside.Facts.{SenderFacts}
use Rattle.bus_table.specs.Valid.{is_valid}
use Rattle.bus_table.proofs.ValidLaws.{valid_facts}
use Rattle.bus_table.specs.Hands.{are_hands}
use Rattle.bus_table.specs.Lengths.{shortest, longest}
use Rattle.bus_table.specs.Turns.{turn_key, turn_order}
use Rattle.bus_table.specs.inside.Orders.{Rises}
use Rattle.bus_table.proofs.TurnLaws.{at_in, from_sort, length-sort, numbers_differ, of_each, order_rises}
use Rattle.bus_medium.specs.CableLawful.{IsLawfulOnCable}
use Rattle.bus_medium.specs.Delays.{at_once, heard}
use Rattle.bus_medium.specs.Lawful.{Station, HaveOwnNumbers, IsLawful}
use Rattle.bus_medium.specs.Wakes.{settled as awake}
use Rattle.bus_medium.proofs.CableLists.{cable_once}
use Rattle.bus_medium.proofs.Hearing.{heard_none, no_delay_is_the_bus, none_at_once}
use Rattle.bus_medium.specs.LawfulLaws.{OneLawfulList}
use Rattle.bus_medium.specs.Timings.{quiet_of, stations_of}
use Rattle.bus_medium.proofs.StationLaws.{stations_have_own_numbers}
use Rattle.bus_regime.specs.declared.table_verdict.TableVerdict.TheVariants.{Accept}
use Rattle.bus_regime.specs.Verdicts.{least_cycle, most_cycle, verdict_of}
use Rattle.bus_regime.proofs.VerdictLaws.{accepted_cycle, aperiodic_numbers, periodic_numbers}
use Rattle.bus_schedule.specs.Even.{messages_of, rounds, are_even}
use Rattle.bus_schedule.specs.Closed.{sends, turns, turns_end, origin, offset_turns, in_rounds, gap_schedule, offset_schedule, schedule_in, closed, closed_end}
use Rattle.bus_schedule.specs.Runs.{IsClear, IsInTurns, IsApart, IsPaced}
use Rattle.bus_schedule.specs.Laws.{AcceptedIsClosed, BorneGapsAreClosed, ClosedIsOrderly, EvenRoundsAreClosed}
use Rattle.bus_schedule.specs.Live.{AreLong}
use Rattle.bus_schedule.proofs.Ascending.{offset_schedule_ascends}
use Rattle.bus_schedule.proofs.EndLemmas.{closed_by_gaps}
use Rattle.bus_schedule.proofs.HandLemmas.{Sendable, stations, own_count}
use Rattle.bus_schedule.proofs.Laying.{IsLaid, laid_schedule}
use Rattle.bus_schedule.proofs.Places.{IsRound, turns_are_round, offset_turns_are_round, offset_turn_is, more_turns, length-in_rounds, in_rounds_at, in_rounds_get}
use Rattle.bus_schedule.proofs.Spacing.{cycle, cycle_sum, cycle_sort, lead, LeadsMore, lead_more, lengths, turns_end_cycle, IsTurn, is_turn}
use Rattle.bus_schedule.proofs.Growing.{Setting, sendable}
use Rattle.bus_schedule.proofs.CableRuns.{IsHeard, is_heard}
use Rattle.bus_schedule.proofs.FineGaps.{accepted_bears_none}
use Rattle.bus_schedule.proofs.Swaying.{at_below}
use Rattle.bus_schedule.proofs.LiveLemmas.{IsLawfulRounds, dealt_of, stations_of_dealt, even_are_long, even_rounds, live_lawful}

-- even hands are dealt: one for each sender
pub dealt : (table : Table) (hands : List Hand) → IsTrue (are_even table hands) → IsTrue (are_hands table.senders hands)
dealt table hands even = (and_parts (are_hands table.senders hands) _ even).0

pub stations_of_even : (table : Table) (hands : List Hand) → IsTrue (is_valid table) → IsTrue (are_even table hands)
    → stations_of table hands ≡ stations table (messages_of hands)
stations_of_even table hands valid even = stations_of_dealt table hands valid (dealt table hands even)

-- what a valid table and even hands give
pub setting_of : (table : Table) (hands : List Hand) → IsTrue (is_valid table) → IsTrue (are_even table hands) → Setting table (messages_of hands) (rounds hands)
setting_of table hands valid even = record {
  dealt = dealt_of table hands valid (dealt table hands even);
  count = own_count (rounds hands) table.senders hands (dealt table hands even) (and_parts (are_hands table.senders hands) _ even).1 (numbers_differ table (valid_facts table valid));
}

module _ (table : Table) (hands : List Hand) (setting : Setting table (messages_of hands) (rounds hands)) where
  of_table : (sender : Sender) → In sender (turn_order table) → In sender table.senders
  of_table sender i = from_sort (turn_key table.mode) table.senders sender i

  facts_of : (sender : Sender) → In sender (turn_order table) → SenderFacts table sender
  facts_of sender i = of_each (SenderFacts table) table.senders setting.dealt.facts.senders sender (of_table sender i)

  as_many : length (turn_order table) ≡ length table.senders
  as_many = length-sort (turn_key table.mode) table.senders

  message : (sender : Sender) (round : ℕ) → In sender (turn_order table) → round < rounds hands → Sendable sender (messages_of hands sender.number) round (get_or (messages_of hands sender.number) round [])
  message sender round i less = sendable table (messages_of hands) (rounds hands) setting sender round (of_table sender i) less

  -- the closed schedule is rounds, one after the other, each with one turn of each sender
  record HasRounds (mode : Mode) : Type 0 where
    round : ℕ → List Entry
    is : schedule_in mode table (messages_of hands) (rounds hands) ≡ in_rounds round (rounds hands)
    each : (r : ℕ) → IsRound (messages_of hands) r (turn_order table) (round r)

  has_rounds : (mode : Mode) → HasRounds mode
  has_rounds Aperiodic = record {
    round = λ r. turns (messages_of hands) r (turn_order table) (origin (messages_of hands) table.sg (λ round. turn_order table) r);
    is = refl;
    each = λ r. turns_are_round (messages_of hands) r (turn_order table) (origin (messages_of hands) table.sg (λ round. turn_order table) r);
  }
  has_rounds Periodic = record {
    round = λ r. offset_turns (messages_of hands) r (turn_order table) (r * table.ti);
    is = refl;
    each = λ r. offset_turns_are_round (messages_of hands) r (r * table.ti) (turn_order table);
  }

  closed_in_turns : IsInTurns table hands (closed table hands)
  closed_in_turns =
      let w : HasRounds table.mode = has_rounds table.mode in
      let k : ℕ = length (turn_order table) in
      record {
        whole = ap length w.is ∙ length-in_rounds (length (turn_order table)) w.round (λ r. (w.each r).whole) (rounds hands) ∙ ap (λ m. rounds hands * m) as_many;
        turn = λ round turn sender less at.
            let t = (w.each round).turn turn sender at in
            record {
              entry = sends (messages_of hands) round sender t.0;
              at = ap (λ list. slice_get list (round * length table.senders + turn)) w.is
                  ∙ ap (λ m. slice_get (in_rounds w.round (rounds hands)) (round * m + turn)) (sym as_many)
                  ∙ in_rounds_at (length (turn_order table)) w.round (λ r. (w.each r).whole) (rounds hands) round turn (sends (messages_of hands) round sender t.0) less t.1;
              terminal = refl;
              message = (message sender round (at_in (turn_order table) turn sender at) less).sent;
            };
      }

  gaps_laid : IsLaid (gap_schedule (messages_of hands) table.sg (λ round. turn_order table) (rounds hands)) (origin (messages_of hands) table.sg (λ round. turn_order table) (rounds hands))
  gaps_laid = laid_schedule (messages_of hands) table.sg (λ round. turn_order table) (rounds hands) (λ sender round i less. (message sender round i less).some_bits)

  ascends_in : (mode : Mode) → table.mode ≡ mode → IsAscending (schedule_in mode table (messages_of hands) (rounds hands))
  ascends_in Aperiodic is = gaps_laid.ascends
  ascends_in Periodic is =
      offset_schedule_ascends (messages_of hands) table.ti (turn_order table) (λ s i. at_below table s is (facts_of s i)) (rounds hands)
      (λ s i. (facts_of s i).number_most) (subst (λ m. Rises (turn_key m) (turn_order table)) is (order_rises table setting.dealt.facts))

  -- a turn, and the same turn of the next round
  record AreNext (mode : Mode) (k : ℕ) (x y : Entry) : Type 0 where
    round : ℕ
    turn : ℕ
    more : suc round < rounds hands
    first : slice_get ((has_rounds mode).round round) turn ≡ Some x
    second : slice_get ((has_rounds mode).round (suc round)) turn ≡ Some y

  are_next : (mode : Mode) (k : ℕ) (x y : Entry) → slice_get (schedule_in mode table (messages_of hands) (rounds hands)) k ≡ Some x
      → slice_get (schedule_in mode table (messages_of hands) (rounds hands)) (k + length table.senders) ≡ Some y → AreNext mode k x y
  are_next mode k x y at_x at_y =
      let w : HasRounds mode = has_rounds mode in
      let some : 0 < length table.senders = setting.dealt.facts.some in
      let same : length (turn_order table) ≡ length table.senders = as_many in
      let inside : k % length (turn_order table) < length (turn_order table) = omega arith in
      let place : k / length (turn_order table) * length (turn_order table) + k % length (turn_order table) ≡ k = div-add-mod' k (length (turn_order table)) in
      let next : suc (k / length (turn_order table)) * length (turn_order table) + k % length (turn_order table) ≡ k + length table.senders = omega (arith, more_turns (k / length (turn_order table)) (length (turn_order table))) in
      let first = in_rounds_get (length (turn_order table)) w.round (λ r. (w.each r).whole) (rounds hands) (k / length (turn_order table)) (k % length (turn_order table)) x inside
      (ap (λ l. slice_get l (k / length (turn_order table) * length (turn_order table) + k % length (turn_order table))) (sym w.is) ∙ ap (slice_get (schedule_in mode table (messages_of hands) (rounds hands))) place ∙ at_x) in
      let second = in_rounds_get (length (turn_order table)) w.round (λ r. (w.each r).whole) (rounds hands) (suc (k / length (turn_order table))) (k % length (turn_order table)) y inside
      (ap (λ l. slice_get l (suc (k / length (turn_order table)) * length (turn_order table) + k % length (turn_order table))) (sym w.is) ∙ ap (slice_get (schedule_in mode table (messages_of hands) (rounds hands))) next ∙ at_y) in
      record {
        round = k / length (turn_order table);
        turn = k % length (turn_order table);
        more = second.0;
        first = first.1;
        second = second.1;
      }

  least_is : (w : Sender → ℕ) → cycle w (turn_order table) ≡ cycle w table.senders
  least_is w = cycle_sort w (turn_key table.mode) table.senders

  between : (from end sg first second : ℕ) (short long this next : Sender → ℕ) (order : List Sender) (turn : ℕ) → end ≡ from + cycle this order → first ≡ from + lead this order turn → second ≡ end + sg + lead next order turn
      → ((a : Sender) → In a order → (short a ≤ this a) × (this a ≤ long a)) → ((a : Sender) → In a order → (short a ≤ next a) × (next a ≤ long a))
      → (first + (sg + cycle short order) ≤ second) × (second ≤ first + (sg + cycle long order))
  between from end sg first second short long this next order turn e f s h k =
      let a : LeadsMore short this order turn = lead_more short this order turn (λ x i. (h x i).0) in
      let b : LeadsMore this long order turn = lead_more this long order turn (λ x i. (h x i).1) in
      let c : LeadsMore short next order turn = lead_more short next order turn (λ x i. (k x i).0) in
      let d : LeadsMore next long order turn = lead_more next long order turn (λ x i. (k x i).1) in
      (omega arith, omega arith)

  gap_turns_apart : (round turn : ℕ) (x y : Entry) → suc round < rounds hands
      → slice_get (turns (messages_of hands) round (turn_order table) (origin (messages_of hands) table.sg (λ round. turn_order table) round)) turn ≡ Some x
      → slice_get (turns (messages_of hands) (suc round) (turn_order table) (origin (messages_of hands) table.sg (λ round. turn_order table) (suc round))) turn ≡ Some y
      → IsApart (least_cycle table) (most_cycle table) x y
  gap_turns_apart round turn x y more at_x at_y =
      let from : ℕ = origin (messages_of hands) table.sg (λ round. turn_order table) round in
      let this : Sender → ℕ = lengths (messages_of hands) round in
      let next : Sender → ℕ = lengths (messages_of hands) (suc round) in
      let t : IsTurn (messages_of hands) round (turn_order table) from turn x = is_turn (messages_of hands) round (turn_order table) from turn x at_x in
      let u : IsTurn (messages_of hands) (suc round) (turn_order table) (origin (messages_of hands) table.sg (λ round. turn_order table) (suc round)) turn y = is_turn (messages_of hands) (suc round) (turn_order table) (origin (messages_of hands) table.sg (λ round. turn_order table) (suc round)) turn y at_y in
      let same : t.sender ≡ u.sender = let k : Some t.sender ≡ Some u.sender = sym t.at ∙ u.at in cc in
      let numbers = between from (turns_end (messages_of hands) round (turn_order table) from) table.sg x.moment y.moment shortest longest this next (turn_order table) turn
      (turns_end_cycle (messages_of hands) round (turn_order table) from) t.moment u.moment
      (λ a i. let m = message a round i (omega arith) in (m.least, m.most))
      (λ a i. let m = message a (suc round) i more in (m.least, m.most)) in
      record {
        one_sender = t.terminal ∙ ap (λ (s : Sender). s.number) same ∙ sym u.terminal;
        no_sooner = subst (λ c. x.moment + (table.sg + c) ≤ y.moment) (least_is shortest ∙ sym (cycle_sum shortest table.senders)) numbers.0;
        no_later = subst (λ c. y.moment ≤ x.moment + (table.sg + c)) (least_is longest ∙ sym (cycle_sum longest table.senders)) numbers.1;
      }

  offset_turns_apart : (round turn : ℕ) (x y : Entry) → slice_get (offset_turns (messages_of hands) round (turn_order table) (round * table.ti)) turn ≡ Some x
      → slice_get (offset_turns (messages_of hands) (suc round) (turn_order table) (suc round * table.ti)) turn ≡ Some y
      → IsApart table.ti table.ti x y
  offset_turns_apart round turn x y at_x at_y =
      let p = offset_turn_is (messages_of hands) round (round * table.ti) (turn_order table) turn x at_x in
      let q = offset_turn_is (messages_of hands) (suc round) (suc round * table.ti) (turn_order table) turn y at_y in
      let same : p.0 ≡ q.0 = let k : Some p.0 ≡ Some q.0 = sym p.1 ∙ q.1 in cc in
      let first : round * table.ti + p.0.at ≡ x.moment = ap (λ (z : Entry). z.moment) p.2 in
      let second : suc round * table.ti + q.0.at ≡ y.moment = ap (λ (z : Entry). z.moment) q.2 in
      let at : p.0.at ≡ q.0.at = ap (λ (z : Sender). z.at) same in
      let step : suc round * table.ti ≡ round * table.ti + table.ti = more_turns round table.ti in
      record {
        one_sender = sym (ap (λ (z : Entry). z.terminal) p.2) ∙ ap (λ (z : Sender). z.number) same ∙ ap (λ (z : Entry). z.terminal) q.2;
        no_sooner = omega arith;
        no_later = omega arith;
      }

  paced_in : (own : Mode) → table.mode ≡ own → (mode : Mode) (least most k : ℕ) (x y : Entry) → verdict_of table ≡ Accept mode least most
      → slice_get (schedule_in own table (messages_of hands) (rounds hands)) k ≡ Some x
      → slice_get (schedule_in own table (messages_of hands) (rounds hands)) (k + length table.senders) ≡ Some y → IsApart least most x y
  unfolding has_rounds
  paced_in Aperiodic is mode least most k x y accepted at_x at_y =
      let w : AreNext Aperiodic k x y = are_next Aperiodic k x y at_x at_y in
      let numbers = aperiodic_numbers table mode least most is accepted in
      subst (λ n. IsApart n most x y) (sym numbers.0) (subst (λ n. IsApart (least_cycle table) n x y) (sym numbers.1) (gap_turns_apart w.round w.turn x y w.more w.first w.second))
  paced_in Periodic is mode least most k x y accepted at_x at_y =
      let w : AreNext Periodic k x y = are_next Periodic k x y at_x at_y in
      let numbers = periodic_numbers table mode least most is accepted in
      subst (λ n. IsApart n most x y) (sym numbers.0) (subst (λ n. IsApart table.ti n x y) (sym numbers.1) (offset_turns_apart w.round w.turn x y w.first w.second))

  closed_paced : IsPaced table (closed table hands)
  closed_paced = record { apart = λ mode least most k x y accepted at_x at_y. paced_in table.mode refl mode least most k x y accepted at_x at_y }

-- the closed schedule, accepted or not
pub closed_is_orderly : ClosedIsOrderly
closed_is_orderly table hands valid even =
    let setting : Setting table (messages_of hands) (rounds hands) = setting_of table hands valid even in
    record {
      ascends = ascends_in table hands setting table.mode refl;
      turns = closed_in_turns table hands setting;
      clear = λ mode. subst (λ m. IsClear (schedule_in m table (messages_of hands) (rounds hands))) (sym mode) (gaps_laid table hands setting).clear;
    }

pub even_rounds_are_closed : EvenRoundsAreClosed
even_rounds_are_closed table hands valid mode even =
    even_rounds table (messages_of hands) (rounds hands) (setting_of table hands valid even) (rounds hands) (omega arith)
    ∙ sym (closed_by_gaps table hands mode)

pub accepted_is_closed : OneLawfulList → AcceptedIsClosed
accepted_is_closed once table hands valid accepted even =
    let setting : Setting table (messages_of hands) (rounds hands) = setting_of table hands valid even in
    let run : IsLawfulRounds table (messages_of hands) (closed table hands) = run_in setting table.mode refl in
    let lawful : IsLawful (quiet_of table) (stations_of table hands) (closed_end table hands) (closed table hands) =
    subst (λ ss. IsLawful (quiet_of table) ss (closed_end table hands) (closed table hands)) (sym (stations_of_even table hands valid even)) run.lawful in
    let own : HaveOwnNumbers (stations_of table hands) = stations_have_own_numbers table hands valid (dealt table hands even) in
    record {
      closed = refl;
      lawful = lawful;
      only = λ other law. once (quiet_of table) (stations_of table hands) (closed_end table hands) other (closed table hands) own law lawful;
      clear = run.clear;
      turns = closed_in_turns table hands setting;
      paced = closed_paced table hands setting;
    }
  where
    run_in : Setting table (messages_of hands) (rounds hands) → (mode : Mode) → table.mode ≡ mode
        → IsLawfulRounds table (messages_of hands) (schedule_in mode table (messages_of hands) (rounds hands))
    run_in setting Aperiodic is =
        let long : AreLong table (messages_of hands) = even_are_long table (messages_of hands) (rounds hands) setting (accepted_cycle table is accepted) in
        subst (IsLawfulRounds table (messages_of hands)) (even_rounds table (messages_of hands) (rounds hands) setting (rounds hands) (omega arith))
        (live_lawful table (messages_of hands) setting.dealt is long (rounds hands))
    run_in setting Periodic is =
        let h = is_heard table hands 0 at_once setting is accepted (none_at_once (sender_numbers table)) (accepted_bears_none table valid is accepted) in
        record {
          lawful = (no_delay_is_the_bus (quiet_of table) at_once awake (stations table (messages_of hands))
              (greatest_end (offset_schedule (messages_of hands) table.ti (turn_order table) (rounds hands)))
              (offset_schedule (messages_of hands) table.ti (turn_order table) (rounds hands))
              (none_at_once (map (λ (s : Station). s.number) (stations table (messages_of hands)))) (λ s i. refl)).0 h.lawful;
          clear = subst IsClear (heard_none at_once 0 (offset_schedule (messages_of hands) table.ti (turn_order table) (rounds hands)) (λ x i. omega arith))
              (h.clear 0 (λ x i. omega arith));
        }

-- and so it is on a cable that a periodic table bears
pub borne_gaps_are_closed : BorneGapsAreClosed
borne_gaps_are_closed table hands most delay valid mode accepted even delays borne =
    let setting : Setting table (messages_of hands) (rounds hands) = setting_of table hands valid even in
    let h : IsHeard table hands most delay = is_heard table hands most delay setting mode accepted delays borne in
    let is : closed table hands ≡ offset_schedule (messages_of hands) table.ti (turn_order table) (rounds hands) =
    ap (λ m. schedule_in m table (messages_of hands) (rounds hands)) mode in
    let lawful : IsLawfulOnCable (quiet_of table) delay awake (stations_of table hands) (closed_end table hands) (closed table hands) =
    subst (λ l. IsLawfulOnCable (quiet_of table) delay awake (stations_of table hands) (greatest_end l) l) (sym is)
    (subst (λ ss. IsLawfulOnCable (quiet_of table) delay awake ss (greatest_end (offset_schedule (messages_of hands) table.ti (turn_order table) (rounds hands)))
    (offset_schedule (messages_of hands) table.ti (turn_order table) (rounds hands))) (sym (stations_of_even table hands valid even)) h.lawful) in
    let own : HaveOwnNumbers (stations_of table hands) = stations_have_own_numbers table hands valid (dealt table hands even) in
    record {
      closed = refl;
      lawful = lawful;
      only = λ other law. cable_once (quiet_of table) delay awake (stations_of table hands) (closed_end table hands) other (closed table hands) own law lawful;
      clear = λ number near. subst (λ l. IsClear (heard delay number l)) (sym is) (h.clear number near);
      turns = closed_in_turns table hands setting;
      paced = closed_paced table hands setting;
    }
