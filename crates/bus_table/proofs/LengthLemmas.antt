-- How many words and lines a sender in its ranges has.
use Rattle.std.proofs.Common.{arith, ◌≡◌, ◌+◌, ◌*◌, ◌≤◌, true, nat_le, List, [], ◌∷◌, length}
use Rattle.std.specs.Int.{is_in_range}
use Rattle.std.specs.List.{list_all}
use Rattle.std.proofs.lemmas.Bool.{and_parts}
use Rattle.std.proofs.lemmas.Bool.Decides.{nat_tests}
use Rattle.std.proofs.lemmas.List.Sums.{sum_by-cons}
use Rattle.bus_table.specs.Tables.{SendLine, Sender}
use Rattle.bus_table.specs.Ranges.{is_number, is_tg, is_offset, is_label, is_ext, is_send_line, are_send_lines, is_sender}
use Rattle.bus_table.specs.Lengths.{words_at_least, words_at_most}

-- the words of a line
line_bounds : (line : SendLine) → is_send_line line ≡ true → (line.least ≤ 256) × (line.most ≤ 256)
line_bounds line h =
    let numbers = (and_parts (is_ext line.ext) _ (and_parts (is_label line.label) _ h).1).1 in
    let parts = and_parts (nat_le line.least line.most) _ numbers in
    (grind (arith, nat_tests, parts.0, parts.1), grind (arith, nat_tests, parts.1))

least_bound : (sends : List SendLine) → list_all is_send_line sends ≡ true → words_at_least sends ≤ 257 * length sends
least_bound [] h = omega arith
least_bound (line ∷ sends) h =
    let parts = and_parts (is_send_line line) _ h in
    omega (arith, line_bounds line parts.0, least_bound sends parts.1, sum_by-cons (λ (l : SendLine). 1 + l.least) line sends)

most_bound : (sends : List SendLine) → list_all is_send_line sends ≡ true → words_at_most sends ≤ 257 * length sends
most_bound [] h = omega arith
most_bound (line ∷ sends) h =
    let parts = and_parts (is_send_line line) _ h in
    omega (arith, line_bounds line parts.0, most_bound sends parts.1, sum_by-cons (λ (l : SendLine). 1 + l.most) line sends)

-- the lines and words of a sender in its ranges
pub record WordBounds (sends : List SendLine) : Type 0 where
  pub some : 1 ≤ length sends
  pub few : length sends ≤ 31
  pub least : words_at_least sends ≤ 7967
  pub most : words_at_most sends ≤ 7967

pub word_bounds : (sender : Sender) → is_sender sender ≡ true → WordBounds sender.sends
word_bounds sender h =
    let gaps = (and_parts (is_number sender.number) _ h).1 in
    let lines = (and_parts (is_offset sender.at) _ (and_parts (is_tg sender.tg) _ gaps).1).1 in
    let sends = and_parts (is_in_range 1 31 (length sender.sends)) _ (and_parts (are_send_lines sender.sends) _ lines).0 in
    let count = and_parts (nat_le 1 (length sender.sends)) _ sends.0 in
    let some : 1 ≤ length sender.sends = grind (arith, nat_tests, count.0) in
    let few : length sender.sends ≤ 31 = grind (arith, nat_tests, count.1) in
    record {
      some = some;
      few = few;
      least = omega (arith, least_bound sender.sends sends.1);
      most = omega (arith, most_bound sender.sends sends.1);
    }
