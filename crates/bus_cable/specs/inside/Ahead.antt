-- Lines of which the first has been looked at.
use Rattle.std.specs.Prelude.{◌≡◌, ℕ, length, List, [], ◌∷◌, Option, Some, None}
use Rattle.bus_text.specs.Entries.{entry}
use Rattle.bus_text.specs.Lines.{Entry}
use Rattle.bus_text.specs.declared.cursor.Line.{Line}
use Rattle.bus_strings.specs.Reading.{number_of}
use Rattle.bus_cable.specs.Reading.{bits_field}

-- The lines that are still to be read: the one that was looked at, and those behind it. Where there is none, the text has ended.
abbrev pub ahead : Option Line → List Entry → List Entry
ahead None lines = []
ahead (Some line) lines = entry line ∷ lines

-- There are three fields, and these are the second and the third.
pub record HasThree (fields : List (List ℕ)) (number bits : List ℕ) : Type 0 where
  pub count : length fields ≡ 3
  pub number_is : number ≡ number_of fields
  pub bits_are : bits ≡ bits_field fields
