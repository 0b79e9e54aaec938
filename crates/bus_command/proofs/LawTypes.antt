-- The laws of the crates below, by which the claims follow.
use Rattle.std.specs.Prelude.{◌≡◌, ℕ, IsTrue, IsOk, List, Ok, Err}
use Rattle.bus_strings.specs.Items.{Item}
use Rattle.bus_strings.specs.Grammar.{IsMessagesText}
use Rattle.bus_strings.specs.Reading.{messages_reading}
use Rattle.bus_table.specs.declared.error.TableError.{TableError}
use Rattle.bus_table.specs.Tables.{Table}
use Rattle.bus_table.specs.Fits.{items_fit}
use Rattle.bus_table.specs.Gives.{Refuses}
use Rattle.bus_table.specs.Hands.{are_hands, hands_of}
use Rattle.bus_table.specs.Reading.{answer_of}
use Rattle.bus_table.specs.Text.{IsTableText}
use Rattle.bus_table.specs.Valid.{is_valid}

-- a text of a valid table reads as it
abbrev pub TextReadsAsItsTable : Type 0
TextReadsAsItsTable = (text : List ℕ) (table : Table) → IsTableText table text → IsTrue (is_valid table) → answer_of text ≡ Ok table

-- what reads as a table is a text of it
abbrev pub ReadsATable : Type 0
ReadsATable = (text : List ℕ) (table : Table) → answer_of text ≡ Ok table → IsTableText table text × IsTrue (is_valid table)

-- a refusal of a table text has its cause
abbrev pub RefusesATable : Type 0
RefusesATable = (text : List ℕ) (error : TableError) → answer_of text ≡ Err error → Refuses text error

-- a text of items reads as them
abbrev pub TextReadsAsItsItems : Type 0
TextReadsAsItsItems = (text : List ℕ) (items : List Item) → IsMessagesText items text → messages_reading text ≡ Ok items

-- what reads as items is a text of them
abbrev pub ReadsItems : Type 0
ReadsItems = (text : List ℕ) (items : List Item) → messages_reading text ≡ Ok items → IsMessagesText items text

-- items that fit give hands that fit
abbrev pub FittingItemsGiveHands : Type 0
FittingItemsGiveHands = (table : Table) (items : List Item) → IsTrue (is_valid table) → IsOk (items_fit table items) → IsTrue (are_hands table.senders (hands_of table items))
