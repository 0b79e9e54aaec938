-- What the texts of cables are read as.
use Rattle.std.specs.Prelude.{◌≡◌, ℕ, List, Ok}
use Rattle.bus_strings.specs.Items.{Item}
use Rattle.bus_cable.specs.Cables.{Cable}
use Rattle.bus_cable.specs.Grammar.{IsCableText}
use Rattle.bus_cable.specs.Reading.{cable_reading}

-- A text of a cable and items reads as them.
abbrev pub ReadsAsItsCable : Type 0
ReadsAsItsCable =
    (text : List ℕ) (cable : Cable) (items : List Item) → IsCableText cable items text → cable_reading text ≡ Ok (cable, items)

-- What reads as a cable and items is a text of them.
abbrev pub IsTextOfItsReading : Type 0
IsTextOfItsReading =
    (text : List ℕ) (cable : Cable) (items : List Item) → cable_reading text ≡ Ok (cable, items) → IsCableText cable items text
