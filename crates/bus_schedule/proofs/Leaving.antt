-- What the messages of a periodic table leave of its gaps.
use Rattle.std.proofs.Common.{◌≡◌, ℕ, suc, ◌+◌, ◌*◌, ◌/◌, ◌%◌, ◌<◌, ◌≤◌, List, [], length, get_or, Some, inl, inr, arith, sym, refl, ap, ◌∙◌}
use Rattle.std.specs.Prelude.{slice_get}
use Rattle.std.proofs.lemmas.Bool.{cases_lt}
use Rattle.std.proofs.lemmas.List.{length-map}
use Rattle.std.proofs.lemmas.Nat.{div-add-mod'}
use Rattle.bus_strings.proofs.MemberLaws.{at_in}
use Rattle.bus_strings.specs.Members.{In}
use Rattle.bus_strings.specs.Messages.{Message, Entry, bits}
use Rattle.bus_strings.specs.Transmissions.{end_of}
use Rattle.bus_table.specs.Tables.{Sender, Table}
use Rattle.bus_table.specs.Lengths.{longest}
use Rattle.bus_table.specs.Turns.{turn_key, turn_order}
use Rattle.bus_table.proofs.TurnLaws.{from_sort, length-sort, numbers_differ, order_rises}
use Rattle.bus_regime.specs.Gaps.{Gap, latest_end, last_end, gaps}
use Rattle.bus_regime.proofs.GapLaws.{gap_sender, one_gap, gap_first, gap_next, last_of, same_by_number}
use Rattle.bus_schedule.specs.Even.{messages_of, rounds}
use Rattle.bus_schedule.specs.Closed.{sends, offset_turns, offset_schedule}
use Rattle.bus_schedule.specs.Laws.{GapsAreLeft}
use Rattle.bus_schedule.proofs.HandLemmas.{Sendable}
use Rattle.bus_schedule.proofs.Growing.{Setting, sendable}
use Rattle.bus_schedule.proofs.OffsetEnds.{closed_by_offsets}
use Rattle.bus_schedule.proofs.Places.{offset_turn_is, more_turns, in_rounds_get}
use Rattle.bus_schedule.proofs.RunLemmas.{setting_of}

module _ (table : Table) (messages : ℕ → List Message) (n : ℕ) (setting : Setting table messages n) where
  in_table : (s : Sender) → In s (turn_order table) → In s table.senders
  in_table s i = from_sort (turn_key table.mode) table.senders s i

  -- the gap before a sender is the one that stands at its place
  gap_is : (place : ℕ) (s : Sender) (here gap : Gap) → slice_get (gaps table) place ≡ Some here → here.sender ≡ s → In s (turn_order table) → In gap (gaps table)
      → gap.sender.number ≡ s.number → gap ≡ here
  gap_is place s here gap at own there i same =
      let mine : In gap.sender (turn_order table) = gap_sender table.ti (last_end 0 (turn_order table)) (turn_order table) gap i in
      let e : gap.sender ≡ s = same_by_number table.senders (numbers_differ table setting.dealt.facts) gap.sender s (in_table gap.sender mine) (in_table s there) same in
      one_gap (turn_key table.mode) table.ti (last_end 0 (turn_order table)) (turn_order table) gap here (order_rises table setting.dealt.facts) i (at_in (gaps table) place here at) (e ∙ sym own)

  -- of two turns, of one round, or of the last sender and the first of the next round
  left : (round next from : ℕ) (p s : Sender) (x y : Entry) (gap : Gap) → In p table.senders → round < n
      → sends messages round p (round * table.ti + p.at) ≡ x → sends messages next s (next * table.ti + s.at) ≡ y
      → gap ≡ record { sender = s; from = from; to = table.ti + s.at } → round * table.ti + latest_end p + table.ti ≤ next * table.ti + from
      → end_of x + gap.to ≤ y.moment + gap.from
  left round next from p s x y gap there less x_is y_is gap_is low =
      let m : Sendable p (messages p.number) round (get_or (messages p.number) round []) = sendable table messages n setting p round there less in
      let long : bits (get_or (messages p.number) round []) ≤ longest p = m.most in
      let end : round * table.ti + p.at + bits (get_or (messages p.number) round []) ≡ end_of x = ap end_of x_is in
      let start : next * table.ti + s.at ≡ y.moment = ap (λ (z : Entry). z.moment) y_is in
      let f : gap.from ≡ from = ap (λ (z : Gap). z.from) gap_is in
      let t : gap.to ≡ table.ti + s.at = ap (λ (z : Gap). z.to) gap_is in
      omega arith

  neighbours : (k : ℕ) (x y : Entry) (gap : Gap) → slice_get (offset_schedule messages table.ti (turn_order table) n) k ≡ Some x
      → slice_get (offset_schedule messages table.ti (turn_order table) n) (k + 1) ≡ Some y → In gap (gaps table) → gap.sender.number ≡ y.terminal
      → end_of x + gap.to ≤ y.moment + gap.from
  neighbours k x y gap at_x at_y i same =
      let many : length (turn_order table) ≡ length table.senders = length-sort (turn_key table.mode) table.senders in
      let some : 0 < length table.senders = setting.dealt.facts.some in
      let each = λ (r : ℕ). offset_turns messages r (turn_order table) (r * table.ti) in
      let long : (r : ℕ) → length (offset_turns messages r (turn_order table) (r * table.ti)) ≡ length (turn_order table) = λ r. length-map (turn_order table) (λ (s : Sender). sends messages r s (r * table.ti + s.at)) in
      let inside : k % length (turn_order table) < length (turn_order table) = omega arith in
      let place : k / length (turn_order table) * length (turn_order table) + k % length (turn_order table) ≡ k = div-add-mod' k (length (turn_order table)) in
      let first = in_rounds_get (length (turn_order table)) each long n (k / length (turn_order table)) (k % length (turn_order table)) x inside
      (ap (slice_get (offset_schedule messages table.ti (turn_order table) n)) place ∙ at_x) in
      let p = offset_turn_is messages (k / length (turn_order table)) (k / length (turn_order table) * table.ti) (turn_order table) (k % length (turn_order table)) x first.1 in
      let p_there : In p.0 (turn_order table) = at_in (turn_order table) (k % length (turn_order table)) p.0 p.1 in
      elim (cases_lt (suc (k % length (turn_order table))) (length (turn_order table))) [
        | inl within ↦
            let next : k / length (turn_order table) * length (turn_order table) + suc (k % length (turn_order table)) ≡ k + 1 = omega arith in
            let second = in_rounds_get (length (turn_order table)) each long n (k / length (turn_order table)) (suc (k % length (turn_order table))) y within
            (ap (slice_get (offset_schedule messages table.ti (turn_order table) n)) next ∙ at_y) in
            let s = offset_turn_is messages (k / length (turn_order table)) (k / length (turn_order table) * table.ti) (turn_order table) (suc (k % length (turn_order table))) y second.1 in
            let s_there : In s.0 (turn_order table) = at_in (turn_order table) (suc (k % length (turn_order table))) s.0 s.1 in
            let here : Gap = record { sender = s.0; from = table.ti + latest_end p.0; to = table.ti + s.0.at } in
            let at : slice_get (gaps table) (suc (k % length (turn_order table))) ≡ Some here = gap_next table.ti (last_end 0 (turn_order table)) (turn_order table) (k % length (turn_order table)) p.0 s.0 p.1 s.1 in
            let is : gap ≡ here = gap_is (suc (k % length (turn_order table))) s.0 here gap at refl s_there i (same ∙ sym (ap (λ (z : Entry). z.terminal) s.2)) in
            left (k / length (turn_order table)) (k / length (turn_order table)) (table.ti + latest_end p.0) p.0 s.0 x y gap (in_table p.0 p_there) first.0 p.2 s.2 is (omega arith)
        | inr over ↦
            let next : suc (k / length (turn_order table)) * length (turn_order table) + 0 ≡ k + 1 = omega (arith, more_turns (k / length (turn_order table)) (length (turn_order table))) in
            let second = in_rounds_get (length (turn_order table)) each long n (suc (k / length (turn_order table))) 0 y (omega arith)
            (ap (slice_get (offset_schedule messages table.ti (turn_order table) n)) next ∙ at_y) in
            let s = offset_turn_is messages (suc (k / length (turn_order table))) (suc (k / length (turn_order table)) * table.ti) (turn_order table) 0 y second.1 in
            let s_there : In s.0 (turn_order table) = at_in (turn_order table) 0 s.0 s.1 in
            let here : Gap = record { sender = s.0; from = last_end 0 (turn_order table); to = table.ti + s.0.at } in
            let at : slice_get (gaps table) 0 ≡ Some here = gap_first table.ti (last_end 0 (turn_order table)) (turn_order table) s.0 s.1 in
            let is : gap ≡ here = gap_is 0 s.0 here gap at refl s_there i (same ∙ sym (ap (λ (z : Entry). z.terminal) s.2)) in
            let last : last_end 0 (turn_order table) ≡ latest_end p.0 = last_of (turn_order table) (k % length (turn_order table)) p.0 (omega arith) p.1 in
            left (k / length (turn_order table)) (suc (k / length (turn_order table))) (last_end 0 (turn_order table)) p.0 s.0 x y gap (in_table p.0 p_there) first.0 p.2 s.2 is
            (omega (arith, more_turns (k / length (turn_order table)) table.ti))
      ]

pub gaps_are_left : GapsAreLeft
gaps_are_left table hands k x y gap valid mode even at_x at_y i same =
    let is = closed_by_offsets table hands mode in
    neighbours table (messages_of hands) (rounds hands) (setting_of table hands valid even) k x y gap
    (ap (λ list. slice_get list k) (sym is) ∙ at_x) (ap (λ list. slice_get list (k + 1)) (sym is) ∙ at_y) i same
