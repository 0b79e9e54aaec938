-- The slots of a periodic table: where the gap before each sender and its longest message lie in an interval that goes from a start of the
-- first sender to its next one, and whom the gap synchronizes. Moments are counted from the beginning of an interval of the table.
use Rattle.std.specs.Prelude.{ℕ, ◌+◌, ◌-◌, ◌==◌, List, [], ◌∷◌, map, if◌then◌else◌}
use Rattle.bus_table.specs.Lengths.{longest}
use Rattle.bus_table.specs.Tables.{Sender, Table}
use Rattle.bus_table.specs.Turns.{turn_order}
use Rattle.bus_explain.specs.Figures.{gap_bits}
use Rattle.bus_regime.specs.Gaps.{Gap, gaps, has_width}
use Rattle.bus_page.specs.Turns.{Stretch}
pub use Rattle.bus_page.specs.declared.slot.Synced.{Synced}
pub use Rattle.bus_page.specs.declared.slot.Synced.TheVariants.{All, Others, Nobody}
pub use Rattle.bus_page.specs.declared.slot.Slot.{Slot}

-- The offset of the first of these senders.
abbrev pub first_at : List Sender → ℕ
first_at [] = 0
first_at (sender ∷ order) = sender.at

-- Where the interval that is drawn begins.
abbrev pub begin_of : Table → ℕ
begin_of table = first_at (turn_order table)

-- Whom a gap synchronizes: all, where it has room for a synchronization gap and its own sender's terminal gap; all but its own sender,
-- where it has room for a synchronization gap; else nobody.
abbrev pub synced_by : ℕ → Gap → Synced
synced_by sg gap = if has_width (sg + gap.sender.tg) gap then All else (if has_width sg gap then Others else Nobody)

-- Where a gap is drawn. Gaps are told one interval later; that before the first sender ends at the end of the drawn interval.
abbrev pub gap_from : Table → Gap → ℕ
gap_from table gap = if gap.to == table.ti + begin_of table then gap.from else gap.from - table.ti

-- The slot of a gap, and of the sender behind it.
abbrev pub slot_of : Table → Gap → Slot
slot_of table gap = record {
  number = gap.sender.number;
  from = gap_from table gap;
  to = gap_from table gap + gap_bits gap;
  synced = synced_by table.sg gap;
  message = record { gap = gap.sender.at; from = gap.sender.at; to = gap.sender.at + longest gap.sender };
}

-- The slots of a table, in turn order.
abbrev pub slots_of : Table → List Slot
slots_of table = map (slot_of table) (gaps table)
