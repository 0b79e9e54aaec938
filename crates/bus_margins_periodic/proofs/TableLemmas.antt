-- What holds of the bus of each valid table.
use Rattle.std.proofs.Common.{◌≡◌, ℕ, zero, suc, ◌+◌, ◌-◌, ◌*◌, ◌<◌, ◌≤◌, true, max, List, [], ◌∷◌, length, inl, inr, arith, refl, ap}
use Rattle.std.specs.Prelude.{nat_le, IsTrue}
use Rattle.std.specs.Int.{is_in_range}
use Rattle.std.specs.List.{list_all}
use Rattle.std.proofs.Math.Nat.{le-max_right}
use Rattle.std.proofs.lemmas.Bool.{and_parts}
use Rattle.std.proofs.lemmas.Bool.Decides.{nat_tests}
use Rattle.std.proofs.lemmas.List.Sums.{sum_by-cons}
use Rattle.bus_strings.specs.Members.{In}
use Rattle.bus_table.specs.Lengths.{shortest, longest, words_at_least, words_at_most}
use Rattle.bus_table.specs.Ranges.{is_label, is_ext, is_number, is_tg, is_offset, is_send_line, are_send_lines, is_sender}
use Rattle.bus_table.specs.declared.line.SendLine.{SendLine}
use Rattle.bus_table.specs.Tables.{Sender, Table}
use Rattle.bus_table.specs.Turns.{turn_key, turn_order}
use Rattle.bus_table.specs.Valid.{is_valid}
use Rattle.bus_table.specs.inside.Facts.{SenderFacts, TableFacts}
use Rattle.bus_table.proofs.LengthLemmas.{word_bounds}
use Rattle.bus_table.proofs.TurnLaws.{of_each, from_sort, order_length}
use Rattle.bus_table.proofs.ValidLaws.{valid_facts}
use Rattle.bus_table.specs.Timers.{quiet_of}
use Rattle.bus_bounds.specs.Bounds.{Bounds, AreBounds, drift}
use Rattle.bus_bounds.proofs.BoundLaws.{drift_more}
use Rattle.bus_margins.specs.Times.{least_time, most_time}
use Rattle.bus_margins.specs.Buses.{at_place, bus_of}
use Rattle.bus_margins_periodic.specs.Buses.{late_of, late_by}
use Rattle.bus_margins_periodic.proofs.RoomLemmas.{Sound}

-- the sender at a place
pub record Stands (order : List Sender) (k : ℕ) : Type 0 where
  pub sender : Sender
  pub there : In sender order
  pub is : (f : Sender → ℕ) → at_place f order k ≡ f sender

pub stands : (order : List Sender) (k : ℕ) → k < length order → Stands order k
stands [] k less = absurd (omega arith)
stands (a ∷ order) zero less = record { sender = a; there = inl refl; is = λ f. refl }
stands (a ∷ order) (suc k) less =
    let s : Stands order k = stands order k (omega arith) in
    record { sender = s.sender; there = inr s.there; is = s.is }

-- ---- lengths

words_less : (sends : List SendLine) → list_all is_send_line sends ≡ true → words_at_least sends ≤ words_at_most sends
words_less [] h = omega arith
words_less (line ∷ sends) h =
    let parts = and_parts (is_send_line line) _ h in
    let numbers = (and_parts (is_ext line.ext) _ (and_parts (is_label line.label) _ parts.0).1).1 in
    let less : line.least ≤ line.most = grind (arith, nat_tests, (and_parts (nat_le line.least line.most) _ numbers).0) in
    omega (arith, words_less sends parts.1, sum_by-cons (λ (l : SendLine). 1 + l.least) line sends, sum_by-cons (λ (l : SendLine). 1 + l.most) line sends)

words_some : (sends : List SendLine) → 1 ≤ length sends → 1 ≤ words_at_most sends
words_some [] h = absurd (omega arith)
words_some (line ∷ sends) h = omega (arith, sum_by-cons (λ (l : SendLine). 1 + l.most) line sends)

lines_of : (a : Sender) → is_sender a ≡ true → list_all is_send_line a.sends ≡ true
lines_of a h =
    let gaps = (and_parts (is_number a.number) _ h).1 in
    let lines = (and_parts (is_offset a.at) _ (and_parts (is_tg a.tg) _ gaps).1).1 in
    (and_parts (is_in_range 1 31 (length a.sends)) _ (and_parts (are_send_lines a.sends) _ lines).0).1

-- no message is empty, nor is the shortest longer than the longest
pub lengths_of : (a : Sender) → is_sender a ≡ true → (0 < longest a) × (shortest a ≤ longest a)
lengths_of a h =
    let some : 1 ≤ length a.sends = (word_bounds a h).some in
    let words : 1 ≤ words_at_most a.sends = words_some a.sends some in
    let less : words_at_least a.sends ≤ words_at_most a.sends = words_less a.sends (lines_of a h) in
    (omega arith, omega arith)

-- a longer timer takes longer
pub longer : (bounds : Bounds) (a b : ℕ) → AreBounds bounds → a < b → most_time bounds a < most_time bounds b
longer bounds a b are less =
    let more : drift bounds.clocks (500 * a) ≤ drift bounds.clocks (500 * a + (500 * b - 500 * a)) =
    (drift_more bounds.clocks (500 * a) (500 * b - 500 * a) are.clocks).0 in
    let same : 500 * a + (500 * b - 500 * a) ≡ 500 * b = omega arith in
    let at : drift bounds.clocks (500 * a + (500 * b - 500 * a)) ≡ drift bounds.clocks (500 * b) = ap (drift bounds.clocks) same in
    omega arith

-- ---- the bus

module _ (bounds : Bounds) (table : Table) (are : AreBounds bounds) (valid : IsTrue (is_valid table)) where
  facts : TableFacts table
  facts = valid_facts table valid

  pub stands_at : (k : ℕ) → k < length (turn_order table) → Stands (turn_order table) k
  stands_at k known = stands (turn_order table) k known

  sender_facts : (a : Sender) → In a (turn_order table) → SenderFacts table a
  sender_facts a i = of_each (SenderFacts table) table.senders facts.senders a (from_sort (turn_key table.mode) table.senders a i)

  pub sound : Sound (bus_of bounds table)
  sound = record {
    some = (let n : length (turn_order table) ≡ length table.senders = order_length table in let some : 0 < length table.senders = facts.some in omega arith);
    lasting = λ k known.
        let s : Stands (turn_order table) k = stands_at k known in
        let f : SenderFacts table s.sender = sender_facts s.sender s.there in
        let l = lengths_of s.sender f.in_range in
        let long : at_place (λ a. most_time bounds (longest a)) (turn_order table) k ≡ most_time bounds (longest s.sender) = s.is (λ a. most_time bounds (longest a)) in
        let short : at_place (λ a. least_time bounds (shortest a)) (turn_order table) k ≡ least_time bounds (shortest s.sender) = s.is (λ a. least_time bounds (shortest a)) in
        let some : 0 < longest s.sender = l.0 in
        let less : shortest s.sender ≤ longest s.sender = l.1 in
        (omega arith, omega arith);
    gaps = λ j k known_j known_k.
        let s : Stands (turn_order table) j = stands_at j known_j in
        let f : SenderFacts table s.sender = sender_facts s.sender s.there in
        let is : at_place (λ a. most_time bounds a.tg) (turn_order table) j ≡ most_time bounds s.sender.tg = s.is (λ a. most_time bounds a.tg) in
        let less : most_time bounds s.sender.tg < most_time bounds table.sg = longer bounds s.sender.tg table.sg are f.tg_short in
        omega arith;
  }

  -- the first sender is due no sooner than it is in sync
  pub opens : most_time bounds table.sg + (bus_of bounds table).tg_long 0 + bounds.delay ≤ late_of bounds table 0
  opens =
      let s : Stands (turn_order table) 0 = stands_at 0 sound.some in
      let gap : at_place (λ a. most_time bounds a.tg) (turn_order table) 0 ≡ most_time bounds s.sender.tg = s.is (λ a. most_time bounds a.tg) in
      let due : late_of bounds table 0 ≡ late_by bounds table s.sender = s.is (late_by bounds table) in
      let more : most_time bounds table.sg + most_time bounds s.sender.tg
      ≤ max (most_time bounds (quiet_of table + s.sender.at)) (most_time bounds table.sg + most_time bounds s.sender.tg) =
      le-max_right (most_time bounds (quiet_of table + s.sender.at)) (most_time bounds table.sg + most_time bounds s.sender.tg) in
      omega arith
