-- The lines of senders are aligned: each has as many bytes, whatever its numbers are.
use Rattle.std.specs.Prelude.{◌≡◌, ℕ, ◌+◌, ◌*◌, IsTrue, length}
use Rattle.bus_strings.specs.Members.{In}
use Rattle.bus_table.specs.declared.mode.Mode.TheVariants.{Periodic}
use Rattle.bus_table.specs.Tables.{Sender, Table}
use Rattle.bus_table.specs.Valid.{is_valid}
use Rattle.bus_regime.specs.Gaps.{Gap, gaps}
use Rattle.bus_explain.specs.Senders.{offset_row, turn_row}

-- The columns of a terminal number, of so many times, and a line feed.
abbrev pub row_length : ℕ → ℕ
row_length times = 8 + 20 * times + 1

-- The lines of a table's senders fill their columns.
pub record AreAligned (table : Table) : Type 0 where
  pub turns : (sender : Sender) → In sender table.senders → length (turn_row sender) ≡ row_length 3
  pub offsets : table.mode ≡ Periodic → (gap : Gap) → In gap (gaps table) → length (offset_row gap) ≡ row_length 5

-- Those of every valid table do.
abbrev pub RowsAreAligned : Type 0
RowsAreAligned = (table : Table) → IsTrue (is_valid table) → AreAligned table
