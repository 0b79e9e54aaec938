-- Laws of messages that fit: how long they are.
use Rattle.std.proofs.Common.{arith, ◌≡◌, ℕ, ◌+◌, ◌≤◌, Bool, true, ◌==◌, nat_le, List, [], ◌∷◌, length, refl}
use Rattle.std.specs.List.{sum_by}
use Rattle.std.proofs.lemmas.Bool.{and_parts, eqb-true}
use Rattle.std.proofs.lemmas.Bool.Decides.{nat_tests}
use Rattle.std.proofs.lemmas.List.Sums.{sum_by-cons}
use Rattle.bus_strings.specs.Messages.{Wordstring, Message, word_count, bits}
use Rattle.bus_table.specs.Fits.{allows, matches, fits, is_shortest, is_longest}
use Rattle.bus_table.specs.Lengths.{shortest, longest}
use Rattle.bus_table.specs.Tables.{SendLine, Sender}

-- a line and its wordstring
record Matched (test : SendLine → ℕ → Bool) (line : SendLine) (string : Wordstring) (sends : List SendLine) (message : Message)
    : Type 0 where
  words : test line (length string.words) ≡ true
  others : matches test sends message ≡ true

matched : (test : SendLine → ℕ → Bool) (line : SendLine) (sends : List SendLine) (string : Wordstring) (message : Message)
    → matches test (line ∷ sends) (string ∷ message) ≡ true → Matched test line string sends message
matched test line sends string message h =
    let label = and_parts (string.label == line.label) _ h in
    let ext = and_parts (string.ext == line.ext) _ label.1 in
    let words = and_parts (test line (length string.words)) _ ext.1 in
    record { words = words.0; others = words.1 }

-- as many wordstrings as lines
pub same_count : (test : SendLine → ℕ → Bool) (sends : List SendLine) (message : Message) → matches test sends message ≡ true
    → length message ≡ length sends
same_count test [] [] h = refl
same_count test [] (string ∷ message) h = absurd cc
same_count test (line ∷ sends) [] h = absurd cc
same_count test (line ∷ sends) (string ∷ message) h =
    omega (arith, same_count test sends message (matched test line sends string message h).others)

-- a number of words for each line, which the test holds the wordstring to
words_at_least : (test : SendLine → ℕ → Bool) (count : SendLine → ℕ) → ((line : SendLine) (n : ℕ) → test line n ≡ true → count line ≤ n)
    → (sends : List SendLine) (message : Message) → matches test sends message ≡ true
    → sum_by (λ line. 1 + count line) sends ≤ sum_by word_count message
words_at_least test count bound [] [] h = omega arith
words_at_least test count bound [] (string ∷ message) h = absurd cc
words_at_least test count bound (line ∷ sends) [] h = absurd cc
words_at_least test count bound (line ∷ sends) (string ∷ message) h =
    let m = matched test line sends string message h in
    let others = words_at_least test count bound sends message m.others in
    let lines = sum_by-cons (λ (l : SendLine). 1 + count l) line sends in
    omega (arith, bound line (length string.words) m.words, others, lines, sum_by-cons word_count string message)

words_at_most : (test : SendLine → ℕ → Bool) (count : SendLine → ℕ) → ((line : SendLine) (n : ℕ) → test line n ≡ true → n ≤ count line)
    → (sends : List SendLine) (message : Message) → matches test sends message ≡ true
    → sum_by word_count message ≤ sum_by (λ line. 1 + count line) sends
words_at_most test count bound [] [] h = omega arith
words_at_most test count bound [] (string ∷ message) h = absurd cc
words_at_most test count bound (line ∷ sends) [] h = absurd cc
words_at_most test count bound (line ∷ sends) (string ∷ message) h =
    let m = matched test line sends string message h in
    let others = words_at_most test count bound sends message m.others in
    let lines = sum_by-cons (λ (l : SendLine). 1 + count l) line sends in
    omega (arith, bound line (length string.words) m.words, others, lines, sum_by-cons word_count string message)

allows_least : (line : SendLine) (n : ℕ) → allows line n ≡ true → line.least ≤ n
allows_least line n h = let p = and_parts (nat_le line.least n) _ h in grind (arith, nat_tests, p.0)

allows_most : (line : SendLine) (n : ℕ) → allows line n ≡ true → n ≤ line.most
allows_most line n h = let p = and_parts (nat_le line.least n) _ h in grind (arith, nat_tests, p.1)

-- a message that fits a sender is no shorter than its shortest and no longer than its longest
pub fitting_length : (sender : Sender) (message : Message) → fits sender message ≡ true
    → (shortest sender ≤ bits message) × (bits message ≤ longest sender)
fitting_length sender message h =
    let count = same_count allows sender.sends message h in
    let least = words_at_least allows (λ line. line.least) allows_least sender.sends message h in
    let most = words_at_most allows (λ line. line.most) allows_most sender.sends message h in
    (omega (arith, count, least), omega (arith, count, most))

equal_least : (line : SendLine) (n : ℕ) → (n == line.least) ≡ true → n ≡ line.least
equal_least line n h = eqb-true n line.least h

equal_most : (line : SendLine) (n : ℕ) → (n == line.most) ≡ true → n ≡ line.most
equal_most line n h = eqb-true n line.most h

-- a message with the least data words on each line is the shortest
pub shortest_length : (sender : Sender) (message : Message) → is_shortest sender message ≡ true → bits message ≡ shortest sender
shortest_length sender message h =
    let test = λ (line : SendLine) (n : ℕ). n == line.least in
    let count = same_count test sender.sends message h in
    let low = words_at_least test (λ line. line.least) (λ line n e. omega (arith, equal_least line n e)) sender.sends message h in
    let high = words_at_most test (λ line. line.least) (λ line n e. omega (arith, equal_least line n e)) sender.sends message h in
    omega (arith, count, low, high)

-- a message with the most data words on each line is the longest
pub longest_length : (sender : Sender) (message : Message) → is_longest sender message ≡ true → bits message ≡ longest sender
longest_length sender message h =
    let test = λ (line : SendLine) (n : ℕ). n == line.most in
    let count = same_count test sender.sends message h in
    let low = words_at_least test (λ line. line.most) (λ line n e. omega (arith, equal_most line n e)) sender.sends message h in
    let high = words_at_most test (λ line. line.most) (λ line n e. omega (arith, equal_most line n e)) sender.sends message h in
    omega (arith, count, low, high)
