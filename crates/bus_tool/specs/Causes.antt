-- The cause of each refusal of bus629's own, by the relation between a value and its texts and not by how they are read.
use Rattle.std.specs.Prelude.{◌≡◌, ◌≢◌, ℕ, ◌<◌, false, IsTrue, List, Some, None, Err}
use Rattle.bus_strings.specs.Items.{Item}
use Rattle.bus_table.specs.declared.fit.FitError.{FitError}
use Rattle.bus_table.specs.Fits.{items_fit}
use Rattle.bus_table.specs.declared.mode.Mode.{Mode}
use Rattle.bus_table.specs.declared.mode.Mode.TheVariants.{Aperiodic}
use Rattle.bus_table.specs.Tables.{Table, Hand}
use Rattle.bus_table.specs.Hands.{hands_of}
use Rattle.bus_regime.specs.declared.table_verdict.TableVerdict.{TableVerdict}
use Rattle.bus_regime.specs.Verdicts.{verdict_of, is_accepted}
use Rattle.bus_dropout.specs.DropOut.{last_cycle, drop_end, LastIsLong}
use Rattle.bus_schedule.specs.declared.uneven.Uneven.{Uneven as UnevenHands}
use Rattle.bus_schedule.specs.Closed.{closed_end}
use Rattle.bus_schedule.specs.Limits.{longest_end}
use Rattle.bus_schedule.specs.Uneven.{uneven_of}
use Rattle.bus_trace.specs.Traces.{Recording}
use Rattle.bus_wave.specs.declared.fault.WaveFault.{WaveFault}
use Rattle.bus_wave.specs.Spacing.{spaced_of}
use Rattle.bus_wave.specs.WaveLaws.{IsWaveTrace}
use Rattle.bus_wave.specs.WaveTexts.{IsWaveText}
use Rattle.bus_cable.specs.Cables as cables
use Rattle.bus_cable.specs.Grammar.{IsCableText}
use Rattle.bus_command.specs.Causes.{IsValidText, AreTextsWith, AreTracedWith}
use Rattle.bus_tool.specs.Forms.{MessagesCommand, Observe, Run, Drop, Schedule}
use Rattle.bus_tool.specs.Refusals.{ToolRefusal, TableMode, Unspaced, WaveText, Uneven, NotAccepted, ShortLast, TooLong}
use Rattle.bus_tool.specs.Refusals.{CableText, CableUnfit}

-- A valid table has the text, whose mode isn't the one that is needed.
pub record IsOtherModeText (needed : Mode) (text : List ℕ) : Type 0 where
  pub table : Table
  pub table_is : IsValidText table text
  pub why : table.mode ≢ needed

-- A valid table has the first text, and the second is the wave text of no trace that is spaced for it.
pub record IsNoWaveOf (first second : List ℕ) : Type 0 where
  pub table : Table
  pub table_is : IsValidText table first
  pub none : (trace : Recording) → IsWaveTrace table trace → IsWaveText trace second → ⊥

-- No cable and items have the text.
abbrev pub IsNoCableText : List ℕ → Type 0
IsNoCableText text = (cable : cables.Cable) (items : List Item) → IsCableText cable items text → ⊥

-- A valid table has the first text, and a cable and items have the second, of which this is the first item that doesn't fit the table.
pub record IsUnfitOnCable (error : FitError) (first second : List ℕ) : Type 0 where
  pub table : Table
  pub cable : cables.Cable
  pub items : List Item
  pub table_is : IsValidText table first
  pub cable_stands : IsCableText cable items second
  pub why : items_fit table items ≡ Err error

-- The first entry of the trace that is at fault for the table.
abbrev pub IsUnspacedAt : WaveFault → Table → Recording → Type 0
IsUnspacedAt fault table trace = spaced_of table trace ≡ Err fault

-- The first sender in turn order and the first behind it that has another number of items, with these numbers.
abbrev pub DifferAs : UnevenHands → Table → List Item → Type 0
DifferAs uneven table items = uneven_of table (hands_of table items) ≡ Some uneven

-- The verdict on the table, which doesn't accept it.
abbrev pub IsRefusal : TableVerdict → Table → List Item → Type 0
IsRefusal verdict table items = (verdict ≡ verdict_of table) × (is_accepted verdict ≡ false)

-- The last cycle and the transmit interval of an accepted aperiodic table, which it is shorter than.
pub record IsShortLast (least ti : ℕ) (table : Table) (items : List Item) : Type 0 where
  pub aperiodic : table.mode ≡ Aperiodic
  pub accepted : IsTrue (is_accepted (verdict_of table))
  pub last : last_cycle table (hands_of table items) ≡ Some least
  pub interval : ti ≡ table.ti
  pub shorter : least < ti

-- The end of the closed schedule of even hands.
abbrev pub IsClosedEnd : ℕ → Table → List Hand → Type 0
IsClosedEnd end table hands = (uneven_of table hands ≡ None) × (end ≡ closed_end table hands)

-- The end of the drop-out schedule of an aperiodic table, where the last cycle is no shorter than the interval.
abbrev pub IsDropEnd : ℕ → Table → List Hand → Type 0
IsDropEnd end table hands = (table.mode ≡ Aperiodic) × LastIsLong table hands × (end ≡ drop_end table hands)

-- Which end a schedule has of a table and hands.
abbrev pub EndIs : Type 1
EndIs = ℕ → Table → List Hand → Type 0

-- The end of the schedule that a command asks for: `run` and `drop` ask for one of an accepted table.
abbrev pub IsEndOf : MessagesCommand → ℕ → Table → List Hand → Type 0
IsEndOf (Observe horizon) end table hands = ⊥
IsEndOf Run end table hands = IsTrue (is_accepted (verdict_of table)) × IsClosedEnd end table hands
IsEndOf Drop end table hands = IsTrue (is_accepted (verdict_of table)) × IsDropEnd end table hands
IsEndOf Schedule end table hands = IsClosedEnd end table hands

-- No end, of a command that asks for no schedule.
abbrev pub IsNoEnd : EndIs
IsNoEnd end table hands = ⊥

-- The end of a schedule, which is above its limit.
pub record IsLongEnd (IsEnd : EndIs) (end : ℕ) (table : Table) (items : List Item) : Type 0 where
  pub end_is : IsEnd end table (hands_of table items)
  pub above : longest_end < end

-- The cause of each refusal, of a command that asks for a schedule with this end.
abbrev pub Cause : EndIs → ToolRefusal → List ℕ → List ℕ → Type 0
Cause IsEnd (TableMode needed) first second = IsOtherModeText needed first
Cause IsEnd (Unspaced fault) first second = AreTracedWith (IsUnspacedAt fault) first second
Cause IsEnd (WaveText line reason) first second = IsNoWaveOf first second
Cause IsEnd (Uneven one one_count other other_count) first second =
    AreTextsWith (DifferAs (record { one = one; one_count = one_count; other = other; other_count = other_count })) first second
Cause IsEnd (NotAccepted verdict) first second = AreTextsWith (IsRefusal verdict) first second
Cause IsEnd (ShortLast least ti) first second = AreTextsWith (IsShortLast least ti) first second
Cause IsEnd (TooLong end) first second = AreTextsWith (IsLongEnd IsEnd end) first second
Cause IsEnd (CableText line reason) first second = IsNoCableText second
Cause IsEnd (CableUnfit error) first second = IsUnfitOnCable error first second
