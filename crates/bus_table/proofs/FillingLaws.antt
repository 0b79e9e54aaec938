-- Laws of the filling message: it fits its sender, its item is in the ranges, and it is as long as its mode says.
use Rattle.std.specs.Prelude.{◌≡◌, ℕ, suc, zero, ◌<◌, ◌≤◌, ◌^◌, Bool, true, ◌==◌, nat_le, List, [], ◌∷◌, length}
use Rattle.std.specs.List.{list_all, AllByRecursion}
use Rattle.std.specs.Int.{is_in_range}
use Rattle.std.proofs.Common.{arith, refl, ap, ◌∙◌}
use Rattle.std.proofs.lemmas.Bool.{and_parts, eq-eqb, le-leb, and_from}
use Rattle.std.proofs.lemmas.Bool.Decides.{nat_tests}
use Rattle.std.proofs.lemmas.List.{length-replicate, length-map}
use Rattle.bus_strings.specs.Items.{IsItem}
use Rattle.bus_strings.specs.Limits.{most_strings, most_words}
use Rattle.bus_strings.specs.Messages.{IsWordstring, IsMessage, bits}
use Rattle.bus_table.specs.declared.mode.Mode.{Mode}
use Rattle.bus_table.specs.declared.mode.Mode.TheVariants.{Aperiodic, Periodic}
use Rattle.bus_table.specs.Filling.{zeros, filling_count, filling_strings, filling_item, filling_message}
use Rattle.bus_table.specs.inside.Fillings.{filling_bits}
use Rattle.bus_table.proofs.FitLaws.{shortest_length, longest_length}
use Rattle.bus_table.specs.Fits.{allows, matches, fits, is_shortest, is_longest, has_shape}
use Rattle.bus_table.specs.Hands.{message_of}
use Rattle.bus_table.specs.Ranges.{is_number, is_tg, is_offset, is_label, is_ext, is_send_line, are_send_lines, is_sender}
use Rattle.bus_table.specs.Tables.{SendLine, Sender}

length_zeros : (n : ℕ) → length (zeros n) ≡ n
length_zeros n = length-replicate n 0

-- the numbers of a SEND line
record LineRanges (line : SendLine) : Type 0 where
  label : line.label < 4096
  ext : line.ext < 16
  ordered : line.least ≤ line.most
  most : line.most ≤ 256

line_ranges : (line : SendLine) → is_send_line line ≡ true → LineRanges line
line_ranges line h =
    let label = and_parts (is_label line.label) _ h in
    let ext = and_parts (is_ext line.ext) _ label.1 in
    let words = and_parts (nat_le line.least line.most) _ ext.1 in
    record {
      label = grind (arith, nat_tests, label.0);
      ext = grind (arith, nat_tests, ext.0);
      ordered = grind (arith, nat_tests, words.0);
      most = grind (arith, nat_tests, words.1);
    }

-- a line has from its least to its most data words in the filling message
record Between (line : SendLine) (words : ℕ) : Type 0 where
  low : line.least ≤ words
  high : words ≤ line.most

between : (mode : Mode) (line : SendLine) → is_send_line line ≡ true → Between line (filling_count mode line)
between Aperiodic line h = record { low = omega arith; high = (line_ranges line h).ordered }
between Periodic line h = record { low = (line_ranges line h).ordered; high = omega arith }

count_allowed : (mode : Mode) (line : SendLine) → is_send_line line ≡ true → allows line (length (zeros (filling_count mode line))) ≡ true
count_allowed mode line h =
    let b = between mode line h in
    ap (allows line) (length_zeros (filling_count mode line))
    ∙ and_from _ _ (le-leb line.least (filling_count mode line) b.low) (le-leb (filling_count mode line) line.most b.high)

-- the strings have the shape of the lines
pub filling_shape : (mode : Mode) (sends : List SendLine) → list_all is_send_line sends ≡ true
    → has_shape sends (filling_strings mode sends) ≡ true
filling_shape mode [] h = refl
filling_shape mode (line ∷ sends) h =
    let parts = and_parts (is_send_line line) _ h in
    and_from _ _ (count_allowed mode line parts.0) (filling_shape mode sends parts.1)

-- the message has the labels of the lines, and on each a number of data words that a test takes
filling_matches : (mode : Mode) (test : SendLine → ℕ → Bool) (sends : List SendLine)
    → AllByRecursion (λ line. test line (length (zeros (filling_count mode line))) ≡ true) sends
    → matches test sends (message_of sends (filling_strings mode sends)) ≡ true
filling_matches mode test [] h = refl
filling_matches mode test (line ∷ sends) h =
    and_from _ _ (eq-eqb line.label line.label refl) (and_from _ _ (eq-eqb line.ext line.ext refl)
    (and_from _ _ h.0 (filling_matches mode test sends h.1)))

each_allowed : (mode : Mode) (sends : List SendLine) → list_all is_send_line sends ≡ true
    → AllByRecursion (λ line. allows line (length (zeros (filling_count mode line))) ≡ true) sends
each_allowed mode [] h = tt
each_allowed mode (line ∷ sends) h =
    let parts = and_parts (is_send_line line) _ h in
    (count_allowed mode line parts.0, each_allowed mode sends parts.1)

each_counted : (count : SendLine → ℕ) (sends : List SendLine)
    → AllByRecursion (λ line. (length (zeros (count line)) == count line) ≡ true) sends
each_counted count [] = tt
each_counted count (line ∷ sends) = (eq-eqb _ _ (length_zeros (count line)), each_counted count sends)

pub sends_in_range : (sender : Sender) → is_sender sender ≡ true → are_send_lines sender.sends ≡ true
sends_in_range sender h =
    let number = and_parts (is_number sender.number) _ h in
    let gap = and_parts (is_tg sender.tg) _ number.1 in
    let offset = and_parts (is_offset sender.at) _ gap.1 in
    (and_parts (are_send_lines sender.sends) _ offset.1).0

pub each_send_line : (sender : Sender) → is_sender sender ≡ true → list_all is_send_line sender.sends ≡ true
each_send_line sender h = (and_parts (is_in_range 1 most_strings (length sender.sends)) _ (sends_in_range sender h)).1

-- the filling message fits its sender
pub filling_fits : (mode : Mode) (sender : Sender) → is_sender sender ≡ true → fits sender (filling_message mode sender) ≡ true
filling_fits mode sender h = filling_matches mode allows sender.sends (each_allowed mode sender.sends (each_send_line sender h))

-- in aperiodic mode it is the shortest that its sender has, in periodic mode the longest
pub filling_shortest : (sender : Sender) → is_shortest sender (filling_message Aperiodic sender) ≡ true
filling_shortest sender =
    filling_matches Aperiodic (λ line words. words == line.least) sender.sends (each_counted (λ line. line.least) sender.sends)

pub filling_longest : (sender : Sender) → is_longest sender (filling_message Periodic sender) ≡ true
filling_longest sender =
    filling_matches Periodic (λ line words. words == line.most) sender.sends (each_counted (λ line. line.most) sender.sends)

-- how long it is
pub filling_length : (mode : Mode) (sender : Sender) → bits (filling_message mode sender) ≡ filling_bits mode sender
filling_length Aperiodic sender = shortest_length sender (filling_message Aperiodic sender) (filling_shortest sender)
filling_length Periodic sender = longest_length sender (filling_message Periodic sender) (filling_longest sender)

-- as many wordstrings as lines
filling_wordstrings : (mode : Mode) (sends : List SendLine) → length (message_of sends (filling_strings mode sends)) ≡ length sends
filling_wordstrings mode [] = refl
filling_wordstrings mode (line ∷ sends) = ap suc (filling_wordstrings mode sends)

-- data words of 0 are in their range
zeros_in_range : (n : ℕ) → AllByRecursion (λ word. word < 2 ^ 16) (zeros n)
zeros_in_range zero = tt
zeros_in_range (suc n) = ((let low : 0 < 2 ^ 16 = omega arith in low), zeros_in_range n)

each_wordstring : (mode : Mode) (sends : List SendLine) → list_all is_send_line sends ≡ true
    → AllByRecursion IsWordstring (message_of sends (filling_strings mode sends))
each_wordstring mode [] h = tt
each_wordstring mode (line ∷ sends) h =
    let parts = and_parts (is_send_line line) _ h in
    let r = line_ranges line parts.0 in
    let b = between mode line parts.0 in
    let count = length_zeros (filling_count mode line) in
    let high : filling_count mode line ≤ line.most = b.high in
    let most : line.most ≤ 256 = r.most in
    let few : length (zeros (filling_count mode line)) ≤ 256 = omega (arith, count, high, most) in
    let words = zeros_in_range (filling_count mode line) in
    (record { label = r.label; ext = r.ext; few = few; words = words }, each_wordstring mode sends parts.1)

-- every number of it lies in its range
pub filling_is_message : (mode : Mode) (sender : Sender) → is_sender sender ≡ true → IsMessage (filling_message mode sender)
filling_is_message mode sender h =
    let range = and_parts (is_in_range 1 most_strings (length sender.sends)) _ (sends_in_range sender h) in
    let count = and_parts (nat_le 1 (length sender.sends)) _ range.0 in
    let least : 1 ≤ length sender.sends = grind (arith, nat_tests, count.0) in
    let most : length sender.sends ≤ 31 = grind (arith, nat_tests, count.1) in
    let same = filling_wordstrings mode sender.sends in
    let strings = each_wordstring mode sender.sends (each_send_line sender h) in
    record { some = omega (arith, same, least); few = omega (arith, same, most); strings = strings }

each_string : (mode : Mode) (sends : List SendLine) → list_all is_send_line sends ≡ true
    → list_all (λ string. nat_le (length string) most_words) (filling_strings mode sends) ≡ true
each_string mode [] h = refl
each_string mode (line ∷ sends) h =
    let parts = and_parts (is_send_line line) _ h in
    let count = length_zeros (filling_count mode line) in
    let high : filling_count mode line ≤ line.most = (between mode line parts.0).high in
    let most : line.most ≤ 256 = (line_ranges line parts.0).most in
    let few : length (zeros (filling_count mode line)) ≤ 256 = omega (arith, count, high, most) in
    and_from _ _ (le-leb (length (zeros (filling_count mode line))) 256 few) (each_string mode sends parts.1)

each_zero : (mode : Mode) (sends : List SendLine) → AllByRecursion (AllByRecursion (λ word. word < 2 ^ 16)) (filling_strings mode sends)
each_zero mode [] = tt
each_zero mode (line ∷ sends) = (zeros_in_range (filling_count mode line), each_zero mode sends)

-- its item is in the ranges of a messages text
pub filling_is_item : (mode : Mode) (sender : Sender) → is_sender sender ≡ true → IsItem (filling_item mode sender)
filling_is_item mode sender h =
    let number = (and_parts (is_number sender.number) _ h).0 in
    let count = (and_parts (is_in_range 1 most_strings (length sender.sends)) _ (sends_in_range sender h)).0 in
    let same = length-map sender.sends (λ (line : SendLine). zeros (filling_count mode line)) in
    record {
      ranges = and_from _ _ number
          (and_from _ _ (ap (is_in_range 1 most_strings) same ∙ count) (each_string mode sender.sends (each_send_line sender h)));
      words = each_zero mode sender.sends;
    }
