-- Which texts stand for which cables and items. The relation goes by what is named, and not by how a reader cuts a line.
--   header       the first line, `CABLE 1`
--   place line   `PLACE n x`: terminal n is at place x
--   wake line    `WAKE n w`: terminal n wakes at moment w
--   item line    as in a messages text
use Rattle.std.specs.Prelude.{◌≡◌, ℕ, true, List, [], ◌∷◌, ◌++◌, codes}
use Rattle.bus_text.specs.Headers.{header_fields}
use Rattle.bus_text.specs.Lines.{Entry, entries_of}
use Rattle.bus_text.specs.Numbers.{IsDecimal}
use Rattle.bus_strings.specs.Items.{Item}
use Rattle.bus_strings.specs.Grammar.{AreItemLines}
use Rattle.bus_cable.specs.declared.cable.Named.{Named}
use Rattle.bus_cable.specs.Cables.{Cable, is_cable}

-- The fields of a line that names a number of bit times for a terminal: a keyword and two plain decimals.
pub record IsNamedLine (word : List ℕ) (named : Named) (fields : List (List ℕ)) : Type 0 where
  pub number : List ℕ
  pub bits : List ℕ
  pub parts : fields ≡ word ∷ number ∷ bits ∷ []
  pub terminal : IsDecimal number named.terminal
  pub value : IsDecimal bits named.bits

-- A line of this keyword for each of these, in order.
abbrev pub AreNamedLines : List ℕ → List Named → List Entry → Type 0
AreNamedLines word [] [] = Unit {0}
AreNamedLines word [] (entry ∷ entries) = ⊥
AreNamedLines word (named ∷ others) [] = ⊥
AreNamedLines word (named ∷ others) (entry ∷ entries) = IsNamedLine word named entry.fields × AreNamedLines word others entries

-- A header, the lines of the places, those of the wakes, and those of the items.
pub record AreCableLines (cable : Cable) (items : List Item) (entries : List Entry) : Type 0 where
  pub header : Entry
  pub place_lines : List Entry
  pub wake_lines : List Entry
  pub item_lines : List Entry
  pub parts : entries ≡ header ∷ place_lines ++ (wake_lines ++ item_lines)
  pub begins : header.fields ≡ header_fields (codes "CABLE")
  pub places_are : AreNamedLines (codes "PLACE") cable.places place_lines
  pub wakes_are : AreNamedLines (codes "WAKE") cable.wakes wake_lines
  pub items_are : AreItemLines items item_lines
  pub ranges : is_cable cable ≡ true

-- The text stands for this cable and these items.
abbrev pub IsCableText : Cable → List Item → List ℕ → Type 0
IsCableText cable items text = AreCableLines cable items (entries_of text)
