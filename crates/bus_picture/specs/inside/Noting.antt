-- What is noted of the receive lines of a table, by label and number, and what is written of those that take words of a wordstring.
use Rattle.std.specs.Prelude.{◌≡◌, ℕ, ◌+◌, ◌*◌, Bool, true, false, List, [], ◌∷◌, ◌++◌, codes, decimal, get_or}
use Rattle.std.specs.Prelude.{if◌then◌else◌}
use Rattle.bus_strings.specs.Limits.{most_terminal}
use Rattle.bus_strings.specs.Members.{In}
use Rattle.bus_table.specs.declared.line.TakeLine.{TakeLine}
use Rattle.bus_filter.specs.Received.{Taker}
use Rattle.bus_picture.specs.Takings.{after_commas}

-- ---- what is noted
-- How many numbers there are for each label: one for each terminal, and 0.
abbrev pub terminals : ℕ
terminals = most_terminal + 1

-- How many labels there are.
abbrev pub labels : ℕ
labels = 4096

-- How many places there are: one for each label and number.
abbrev pub place_count : ℕ
place_count = labels * terminals

-- The place of a label and a number.
abbrev pub place_of : ℕ → ℕ → ℕ
place_of label n = label * terminals + n

-- Each of these receive lines of terminal n is noted.
abbrev pub LinesNoted : ℕ → List TakeLine → List Bool → Type 0
LinesNoted n takes may = (line : TakeLine) → In line takes → get_or may (place_of line.label n) false ≡ true

-- Each receive line of these terminals is.
abbrev pub AreNoted : List Taker → List Bool → Type 0
AreNoted ts may = (taker : Taker) → In taker ts → LinesNoted taker.number taker.takes may

-- All that was noted still is.
abbrev pub KeepsNoted : List Bool → List Bool → Type 0
KeepsNoted before may = (j : ℕ) → get_or before j false ≡ true → get_or may j false ≡ true

-- ---- what is written
-- Whether there are numbers.
abbrev pub has_numbers : List ℕ → Bool
has_numbers [] = false
has_numbers (n ∷ numbers) = true

-- Numbers with commas between them.
abbrev pub numbers_so_far : List ℕ → List ℕ
numbers_so_far [] = []
numbers_so_far (n ∷ numbers) = decimal n ++ after_commas numbers

-- A comma, where there are numbers before.
abbrev pub comma : Bool → List ℕ
comma some = if some then codes ", " else []

-- One number more, where it is one of those.
abbrev pub number_more : Bool → Bool → ℕ → List ℕ
number_more some takes n = if takes then comma some ++ decimal n else []

-- What stands where there are none.
abbrev pub none_words : Bool → List ℕ
none_words some = if some then [] else codes "none"
