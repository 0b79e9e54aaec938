-- Wordstrings and messages as they are kept.
use Rattle.std.proofs.Common.{ℕ, zero, suc, ◌*◌, ◌≤◌, List, [], ◌∷◌, length, take, arith}
use Rattle.std.specs.List.{sum_by, AllByRecursion}
use Rattle.std.proofs.lemmas.List.Sums.{sum_by-cons}
use Rattle.bus_strings.specs.Messages.{IsWordstring, Message, IsMessage, word_count, bits, most_bits}

pub all_take : {A : Type 0} (P : A → Type 0) (n : ℕ) (xs : List A) → AllByRecursion P xs → AllByRecursion P (take n xs)
all_take P zero xs h = tt
all_take P (suc n) [] h = tt
all_take P (suc n) (x ∷ xs) h = (h.0, all_take P n xs h.1)

words_least : (m : Message) → length m ≤ sum_by word_count m
words_least [] = omega arith
words_least (s ∷ m) = omega (arith, words_least m, sum_by-cons word_count s m)

pub words_most : (m : Message) → AllByRecursion IsWordstring m → sum_by word_count m ≤ 257 * length m
words_most [] h = omega arith
words_most (s ∷ m) h = let few : length s.words ≤ 256 = h.0.few in omega (arith, words_most m h.1, sum_by-cons word_count s m, few)

-- a message has at least the bit times of one word, and no more than the longest
pub bits_within : (m : Message) → IsMessage m → (20 ≤ bits m) × (bits m ≤ most_bits)
bits_within m h =
    let least = words_least m in
    let most = words_most m h.strings in
    (omega (arith, least, h.some), omega (arith, most, h.few))
