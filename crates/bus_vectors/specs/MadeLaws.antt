-- What holds of each made table and its messages, as laws that crates above cite by `laws`.
use Rattle.std.specs.Prelude.{◌≡◌, ℕ, IsTrue, IsOk, length}
use Rattle.std.specs.List.{AllByRecursion}
use Rattle.bus_strings.specs.Items.{IsItem}
use Rattle.bus_table.specs.Fits.{items_fit}
use Rattle.bus_table.specs.Hands.{items_of}
use Rattle.bus_table.specs.Valid.{is_valid}
use Rattle.bus_vectors.specs.Made.{round_count, made_table, made_items}

-- Every made table is valid.
abbrev pub MadeTablesAreValid : Type 0
MadeTablesAreValid = (number : ℕ) → IsTrue (is_valid (made_table number))

-- Every number of the made items is in its range, and they fit the made table.
abbrev pub MadeItemsFit : Type 0
MadeItemsFit = (number : ℕ) → AllByRecursion IsItem (made_items number) × IsOk (items_fit (made_table number) (made_items number))

-- Each sender has as many items as there are rounds.
abbrev pub AreEvenItems : ℕ → Type 0
AreEvenItems number =
    AllByRecursion (λ sender. length (items_of sender.number (made_items number)) ≡ round_count number) (made_table number).senders

-- So it is for every number.
abbrev pub MadeItemsAreEven : Type 0
MadeItemsAreEven = (number : ℕ) → AreEvenItems number
