-- A W line's digits as the code reads and writes them: a digit behind the first two has two bits.
use Rattle.std.specs.Prelude.{ℕ, zero, suc, ◌+◌, ◌*◌, ◌/◌, ◌%◌, ◌&&◌, ◌==◌, List, [], ◌∷◌, ◌++◌, Option, Some, None}
use Rattle.std.specs.Prelude.{if◌then◌else◌}
use Rattle.std.specs.Option.{option_and_then}
use Rattle.bus_words.specs.declared.word.Kind.{Kind}
use Rattle.bus_words.specs.declared.word.Kind.TheVariants.{Label, Plain}
use Rattle.bus_words.specs.declared.word.FramedWord.{FramedWord}

-- The two bits of a digit: 01 01 is 0 0, and so on; none where one of its pairs is 00 or 11, and none of another byte.
abbrev pub two_bits : ℕ → Option ℕ
two_bits digit =
    if digit == 53 then Some 0 else if digit == 54 then Some 1 else if digit == 57 then Some 2 else if digit == 65 then Some 3 else None

-- A number, and behind it the bits of digits.
abbrev pub gathered : ℕ → List ℕ → Option ℕ
gathered bits [] = Some bits
gathered bits (digit ∷ digits) = option_and_then (λ two. gathered (4 * bits + two) digits) (two_bits digit)

-- The kind of word, and its highest bit, by the first two digits.
abbrev pub head_of : ℕ → ℕ → Option (Kind × ℕ)
head_of first second =
    if first == 69 && second == 49 then Some (Label, 0)
    else if first == 69 && second == 50 then Some (Label, 1)
    else if first == 49 && second == 68 then Some (Plain, 0)
    else if first == 49 && second == 69 then Some (Plain, 1)
    else None

-- The word of a kind and of the number of its bits, the lowest of which is the parity bit.
abbrev pub frame_with : Kind → ℕ → FramedWord
frame_with kind bits = record { kind = kind; value = bits / 2; parity = bits % 2 == 1 }

-- The digit of two bits.
abbrev pub code_digit : ℕ → ℕ
code_digit two = if two == 0 then 53 else if two == 1 then 54 else if two == 2 then 57 else 65

-- The digits of the lowest bits of a number, so many times two, the highest first.
abbrev pub code_digits : ℕ → ℕ → List ℕ
code_digits zero n = []
code_digits (suc count) n = code_digits count (n / 4) ++ code_digit (n % 4) ∷ []

-- The first digit of a kind.
abbrev pub first_digit : Kind → ℕ
first_digit Label = 69
first_digit Plain = 49

-- The second digit of a kind and of the highest bit.
abbrev pub second_digit : Kind → ℕ → ℕ
second_digit Label bit = if bit == 0 then 49 else 50
second_digit Plain bit = if bit == 0 then 68 else 69
