-- The line code of a word, half bit for half bit: this project's own. A bit time is two half bit times, and a word has 40 half bits.
--   half bit   what the bus carries for half a bit time where it isn't quiet: 0 (false) or 1 (true)
--   sync       the first six half bits of a word, which tell a label word from a plain one
--   pair       the two half bits of a bit
--   digits     half bits by fours, each four as a hexadecimal digit in capitals
use Rattle.std.specs.Prelude.{ℕ, zero, suc, ◌+◌, ◌*◌, ◌/◌, ◌%◌, Bool, true, false, not, ◌==◌, List, [], ◌∷◌, ◌++◌, take, drop, fold}
use Rattle.std.specs.Prelude.{Option, Some, None, if◌then◌else◌}
use Rattle.std.specs.Bool.{beq}
use Rattle.std.specs.Char.{digit_value}
use Rattle.std.specs.List.{flat_map}
use Rattle.std.specs.Option.{option_map, option_and_then}
use Rattle.bus_text.specs.Digits.{hex_digit}
use Rattle.bus_words.specs.declared.word.Kind.{Kind}
use Rattle.bus_words.specs.declared.word.Kind.TheVariants.{Label, Plain}
use Rattle.bus_words.specs.declared.word.FramedWord.{FramedWord}

-- ---- what is sent
-- The sync of a word: 111000 of a label word, 000111 of a plain one.
abbrev pub sync : Kind → List Bool
sync Label = true ∷ true ∷ true ∷ false ∷ false ∷ false ∷ []
sync Plain = false ∷ false ∷ false ∷ true ∷ true ∷ true ∷ []

-- The pair of a bit: 10 of a one, 01 of a zero.
abbrev pub pair : Bool → List Bool
pair bit = bit ∷ not bit ∷ []

-- The lowest bits of a number, so many of them, the highest first.
abbrev pub bits_of : ℕ → ℕ → List Bool
bits_of zero n = []
bits_of (suc count) n = bits_of count (n / 2) ++ (n % 2 == 1) ∷ []

-- The bits of a word in the order in which they are sent: the sixteen of its value, and the parity bit.
abbrev pub frame_bits : FramedWord → List Bool
frame_bits f = bits_of 16 f.value ++ f.parity ∷ []

-- The half bits of a word: its sync, and the pair of each bit.
unfoldable pub frame_halves : FramedWord → List Bool
frame_halves f = sync f.kind ++ flat_map pair (frame_bits f)

-- ---- as digits
-- The number of four half bits, the highest first.
abbrev pub number_of_bits : List Bool → ℕ
number_of_bits bits = fold (λ n bit. 2 * n + (if bit then 1 else 0)) 0 bits

-- Half bits, by fours, as digits.
abbrev pub digits_of : List Bool → List ℕ
digits_of (a ∷ b ∷ c ∷ d ∷ rest) = hex_digit (number_of_bits (a ∷ b ∷ c ∷ d ∷ [])) ∷ digits_of rest
digits_of rest = []

-- The four half bits of a digit.
abbrev pub digit_halves : ℕ → List Bool
digit_halves digit = bits_of 4 (digit_value digit)

-- The half bits of digits.
abbrev pub halves_of : List ℕ → List Bool
halves_of digits = flat_map digit_halves digits

-- ---- what is heard
-- The kind of word that six half bits are the sync of.
abbrev pub kind_of : List Bool → Option Kind
kind_of (true ∷ true ∷ true ∷ false ∷ false ∷ false ∷ []) = Some Label
kind_of (false ∷ false ∷ false ∷ true ∷ true ∷ true ∷ []) = Some Plain
kind_of halves = None

-- The bits of pairs; none where a pair is 00 or 11.
abbrev pub bits_in : List Bool → Option (List Bool)
bits_in [] = Some []
bits_in (one ∷ []) = None
bits_in (one ∷ other ∷ rest) = if beq one other then None else option_map (λ bits. one ∷ bits) (bits_in rest)

-- The word of a kind and of bits, the last of which is the parity bit.
abbrev pub frame_from : Kind → List Bool → FramedWord
frame_from kind bits = record { kind = kind; value = number_of_bits bits / 2; parity = number_of_bits bits % 2 == 1 }

-- The word of half bits, whatever its parity bit; none where the first six are no sync, or a later pair is 00 or 11.
unfoldable pub frame_of : List Bool → Option FramedWord
frame_of halves = option_and_then (λ kind. option_map (frame_from kind) (bits_in (drop 6 halves))) (kind_of (take 6 halves))
