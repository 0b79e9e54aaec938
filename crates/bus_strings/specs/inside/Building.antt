-- The wordstrings of a line, while they are read field by field.
use Rattle.std.specs.Prelude.{◌≡◌, ℕ, List, [], ◌∷◌, ◌++◌, Result, Ok, Err, if◌then◌else◌}
use Rattle.bus_text.specs.inside.Gives.{LineFails}
use Rattle.bus_text.specs.declared.fault.LineFault.{LineFault}
use Rattle.bus_text.specs.declared.reason.Reason.{Reason}
use Rattle.bus_text.specs.declared.reason.Reason.TheVariants.{Spelling}
use Rattle.bus_strings.specs.Reading.{are_spelled, strings_of}

-- Words in front of those of the first wordstring.
abbrev pub onto : List ℕ → List (List ℕ) → List (List ℕ)
onto words [] = words ∷ []
onto words (string ∷ strings) = (words ++ string) ∷ strings

-- What is read where these wordstrings are whole, these words were read since, and these fields are left.
abbrev pub with_strings : List (List ℕ) → List ℕ → List (List ℕ) → Result (List (List ℕ)) Reason
with_strings whole words fields = if are_spelled fields then Ok (whole ++ onto words (strings_of fields)) else Err Spelling

-- With these words and fields the same is read as with those.
abbrev pub ReadsAlike : List ℕ → List (List ℕ) → List ℕ → List (List ℕ) → Type 0
ReadsAlike words fields words' fields' = (whole : List (List ℕ)) → with_strings whole words' fields' ≡ with_strings whole words fields

-- Behind this field, what was whole and read before has become this, whatever fields are left.
abbrev pub Takes : List ℕ → List (List ℕ) → List ℕ → List (List ℕ) → List ℕ → Type 0
Takes field whole words whole' words' = (rest : List (List ℕ)) → with_strings whole' words' rest ≡ with_strings whole words (field ∷ rest)

-- This field is refused, whatever fields are left.
abbrev pub Refuses : LineFault Reason → List ℕ → List (List ℕ) → List ℕ → Type 0
Refuses fault field whole words = (rest : List (List ℕ)) → LineFails fault (with_strings whole words (field ∷ rest))
