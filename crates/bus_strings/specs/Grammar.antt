-- Which texts stand for which items. The relation goes by the items, and not by how a reader cuts a line.
--   header      the first line, `MESSAGES 1`
--   item line   `MSG n : w w : w`: a terminal, and behind each colon the data words of a wordstring
use Rattle.std.specs.Prelude.{◌≡◌, ℕ, true, List, [], ◌∷◌, ◌++◌, codes}
use Rattle.bus_text.specs.Headers.{header_fields}
use Rattle.bus_text.specs.Lines.{Entry, entries_of}
use Rattle.bus_text.specs.Numbers.{IsDecimal, IsHexadecimal}
use Rattle.bus_strings.specs.Items.{Item, is_in_range}

-- Data words of four hexadecimal digits, one a field.
abbrev pub AreWords : List ℕ → List (List ℕ) → Type 0
AreWords [] [] = Unit {0}
AreWords [] (field ∷ fields) = ⊥
AreWords (word ∷ words) [] = ⊥
AreWords (word ∷ words) (field ∷ fields) = IsHexadecimal 4 field word × AreWords words fields

-- Wordstrings, of which there is one, a colon between each two.
abbrev pub AreStrings : List (List ℕ) → List (List ℕ) → Type 0
AreStrings [] fields = ⊥
AreStrings (string ∷ []) fields = AreWords string fields
AreStrings (string ∷ next ∷ strings) fields =
    (front : List (List ℕ)) × (rest : List (List ℕ)) × (fields ≡ front ++ codes ":" ∷ rest)
    × AreWords string front × AreStrings (next ∷ strings) rest

-- The fields of an item's line.
pub record IsItemLine (item : Item) (fields : List (List ℕ)) : Type 0 where
  pub number : List ℕ
  pub words : List (List ℕ)
  pub parts : fields ≡ codes "MSG" ∷ number ∷ codes ":" ∷ words
  pub terminal : IsDecimal number item.terminal
  pub strings : AreStrings item.strings words
  pub ranges : is_in_range item ≡ true

-- A line for each item, in order.
abbrev pub AreItemLines : List Item → List Entry → Type 0
AreItemLines [] [] = Unit {0}
AreItemLines [] (entry ∷ entries) = ⊥
AreItemLines (item ∷ items) [] = ⊥
AreItemLines (item ∷ items) (entry ∷ entries) = IsItemLine item entry.fields × AreItemLines items entries

-- A header, and then the lines of the items.
abbrev pub AreMessageLines : List Item → List Entry → Type 0
AreMessageLines items [] = ⊥
AreMessageLines items (first ∷ others) = (first.fields ≡ header_fields (codes "MESSAGES")) × AreItemLines items others

-- The text stands for these items.
abbrev pub IsMessagesText : List Item → List ℕ → Type 0
IsMessagesText items text = AreMessageLines items (entries_of text)
