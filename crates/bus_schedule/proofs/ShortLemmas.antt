-- The closed end of a witness is within the limit.
use Rattle.std.proofs.Common.{◌≡◌, ℕ, zero, suc, ◌+◌, ◌*◌, ◌<◌, ◌≤◌, max, List, [], ◌∷◌, length, get_or, inl, inr, arith, sym, refl}
use Rattle.std.proofs.Common.{ap, subst}
use Rattle.bus_strings.specs.Marking.{greatest_end}
use Rattle.bus_strings.proofs.MemberLaws.{of_each, in_append_cases, from_map}
use Rattle.bus_strings.specs.Members.{In}
use Rattle.bus_strings.specs.Messages.{Message, Entry, IsMessage, bits}
use Rattle.bus_strings.specs.Transmissions.{end_of}
use Rattle.bus_strings.proofs.KeptLemmas.{words_most}
use Rattle.bus_table.specs.declared.mode.Mode.{Mode}
use Rattle.bus_table.specs.declared.mode.Mode.TheVariants.{Aperiodic, Periodic}
use Rattle.bus_table.specs.inside.Facts.{SenderFacts, TableFacts}
use Rattle.bus_table.specs.Filling.{filling_message}
use Rattle.bus_table.proofs.FillingLaws.{filling_is_message}
use Rattle.bus_table.specs.Tables.{Sender, Table}
use Rattle.bus_table.specs.Turns.{turn_key, turn_order}
use Rattle.bus_table.proofs.TurnLaws.{from_sort, length-sort}
use Rattle.bus_table.proofs.ValidLaws.{valid_facts}
use Rattle.bus_schedule.specs.Closed.{sends, turns_end, offset_turns, gap_schedule, offset_schedule, schedule_in}
use Rattle.bus_schedule.specs.Even.{messages_of}
use Rattle.bus_schedule.specs.Laws.{WitnessesAreShort}
use Rattle.bus_schedule.specs.Limits.{longest_end}
use Rattle.bus_schedule.specs.Settled.{witness_hands}
use Rattle.bus_schedule.proofs.EndLemmas.{ends_at, some_turn}
use Rattle.bus_schedule.proofs.Greatest.{greatest_cons}
use Rattle.bus_schedule.proofs.Spacing.{cycle, lengths, turns_end_cycle}
use Rattle.bus_schedule.proofs.Swaying.{at_below}
use Rattle.bus_schedule.proofs.WitnessLemmas.{witness_messages, two_rounds}

-- no message is longer than this
abbrev most : ℕ
most = 160000

bits_most : (message : Message) → IsMessage message → bits message ≤ most
bits_most message is =
    let few : length message ≤ 31 = is.few in
    omega (arith, words_most message is.strings)

module _ (table : Table) (facts : TableFacts table) where
  facts_of : (sender : Sender) → In sender table.senders → SenderFacts table sender
  facts_of sender i = of_each (SenderFacts table) table.senders facts.senders sender i

  in_table : (sender : Sender) → In sender (turn_order table) → In sender table.senders
  in_table sender i = from_sort (turn_key table.mode) table.senders sender i

  length_most : (sender : Sender) (round : ℕ) → In sender table.senders → round < 2
      → lengths (messages_of (witness_hands table)) round sender ≤ most
  length_most sender zero i less =
      let e : lengths (messages_of (witness_hands table)) 0 sender ≡ bits (filling_message table.mode sender) =
      ap (λ (hand : List Message). bits (get_or hand 0 [])) (witness_messages table sender facts i) in
      omega (arith, bits_most (filling_message table.mode sender) (filling_is_message table.mode sender (facts_of sender i).in_range))
  length_most sender (suc zero) i less =
      let e : lengths (messages_of (witness_hands table)) 1 sender ≡ bits (filling_message table.mode sender) =
      ap (λ (hand : List Message). bits (get_or hand 1 [])) (witness_messages table sender facts i) in
      omega (arith, bits_most (filling_message table.mode sender) (filling_is_message table.mode sender (facts_of sender i).in_range))
  length_most sender (suc (suc round)) i less = absurd (omega arith)

  cycle_most : (order : List Sender) (round : ℕ) → round < 2 → ((sender : Sender) → In sender order → In sender table.senders)
      → cycle (lengths (messages_of (witness_hands table)) round) order ≤ length order * 200000
  cycle_most [] round less h = omega arith
  cycle_most (a ∷ order) round less h =
      let tg : a.tg ≤ 256 = (facts_of a (h a (inl refl))).tg_most in
      omega (arith, length_most a round (h a (inl refl)) less, cycle_most order round less (λ b i. h b (inr i)))

  gaps_short : 0 < length (turn_order table)
      → greatest_end (gap_schedule (messages_of (witness_hands table)) table.sg (λ round. turn_order table) 2) ≤ longest_end
  gaps_short some =
      let hands = messages_of (witness_hands table) in
      let order = turn_order table in
      let so = ends_at (messages_of (witness_hands table))
      table.sg (λ round. turn_order table) 1 some in
      let end : greatest_end (gap_schedule (messages_of (witness_hands table)) table.sg (λ round. turn_order table) 2) ≡ turns_end
      (messages_of (witness_hands table)) 1 (turn_order table) (turns_end (messages_of (witness_hands table)) 0 (turn_order table) 0 +
      table.sg) = so in
      let first = turns_end_cycle (messages_of (witness_hands table)) 0 (turn_order table) 0 in
      let second = turns_end_cycle (messages_of (witness_hands table)) 1 (turn_order table)
      (turns_end (messages_of (witness_hands table)) 0 (turn_order table) 0 + table.sg) in
      let count : length (turn_order table) ≤ 128 = omega (arith, length-sort (turn_key table.mode) table.senders, facts.few) in
      let sg : table.sg ≤ 1024 = facts.sg_most in
      let a = cycle_most (turn_order table) 0 (omega arith) in_table in
      let b = cycle_most (turn_order table) 1 (omega arith) in_table in
      omega (arith, end, first, second, a, b)

  -- each transmission ends within the limit, so does the last
  ends_most : (list : List Entry) → ((x : Entry) → In x list → end_of x ≤ longest_end) → greatest_end list ≤ longest_end
  ends_most [] h = omega arith
  ends_most (x ∷ list) h =
      let first : end_of x ≤ longest_end = h x (inl refl) in
      omega (arith, greatest_cons x list, max_most (end_of x) (greatest_end list) longest_end first (ends_most list (λ y i. h y (inr i))))
    where
      max_most : (a b c : ℕ) → a ≤ c → b ≤ c → max a b ≤ c
      max_most a b c h k = grind arith

  turn_short : (sender : Sender) (round base : ℕ) → table.mode ≡ Periodic → In sender table.senders → round < 2 → base ≤ 128000
      → end_of (sends (messages_of (witness_hands table)) round sender (base + sender.at)) ≤ longest_end
  turn_short sender round base mode i less low =
      let at : sender.at < table.ti = at_below table sender mode (facts_of sender i) in
      let ti : table.ti ≤ 128000 = facts.ti_most in
      let long : lengths (messages_of (witness_hands table)) round sender ≤ most = length_most sender round i less in
      omega arith

  offsets_short : table.mode ≡ Periodic → greatest_end (offset_schedule (messages_of (witness_hands table)) table.ti (turn_order table) 2)
      ≤ longest_end
  offsets_short mode =
      let hands = messages_of (witness_hands table) in
      let ti : table.ti ≤ 128000 = facts.ti_most in
      ends_most (offset_schedule (messages_of (witness_hands table)) table.ti (turn_order table) 2) (λ x i.
      elim (in_append_cases (offset_turns (messages_of (witness_hands table)) 0 (turn_order table) (0 * table.ti))
      (offset_turns (messages_of (witness_hands table)) 1 (turn_order table) (1 * table.ti)) x i) [
        | inl first ↦
            let w = from_map (λ s. sends (messages_of (witness_hands table)) 0 s (0 * table.ti + s.at)) (turn_order table) x first in
            subst (λ y. end_of y ≤ longest_end) w.2 (turn_short w.0 0 (0 * table.ti) mode (in_table w.0 w.1) (omega arith) (omega arith))
        | inr second ↦
            let w = from_map (λ s. sends (messages_of (witness_hands table)) 1 s (1 * table.ti + s.at)) (turn_order table) x second in
            subst (λ y. end_of y ≤ longest_end) w.2 (turn_short w.0 1 (1 * table.ti) mode (in_table w.0 w.1) (omega arith) (omega arith))
      ])

  short_in : (mode : Mode) → table.mode ≡ mode → 0 < length (turn_order table)
      → greatest_end (schedule_in mode table (messages_of (witness_hands table)) 2) ≤ longest_end
  short_in Aperiodic is some = gaps_short some
  short_in Periodic is some = offsets_short is

pub witnesses_are_short : WitnessesAreShort
witnesses_are_short table valid =
    let facts = valid_facts table valid in
    subst (λ l. greatest_end l ≤ longest_end)
    (sym (ap (schedule_in table.mode table (messages_of (witness_hands table))) (two_rounds table facts)))
    (short_in table facts table.mode refl (some_turn table valid))
