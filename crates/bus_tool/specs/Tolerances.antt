-- What `tolerance` writes of a table: its tolerance line, or the verdict line of a table that is refused.
--   least, most   the verdict's: two starts of a sender are no nearer, and without delays no farther apart
use Rattle.std.specs.Prelude.{ℕ, zero, suc, ◌+◌, ◌*◌, Bool, true, false, ◌==◌, List, [], ◌∷◌, ◌++◌, length, codes, Option, Some, None}
use Rattle.std.specs.Prelude.{if◌then◌else◌}
use Rattle.std.specs.Fmt.{decimal}
use Rattle.bus_table.specs.Tables.{Table}
use Rattle.bus_table.specs.Text.{mode_word}
use Rattle.bus_table.specs.declared.mode.Mode.{Mode}
use Rattle.bus_table.specs.declared.mode.Mode.TheVariants.{Aperiodic, Periodic}
use Rattle.bus_regime.specs.Lines.{verdict_line}
use Rattle.bus_regime.specs.declared.table_verdict.TableVerdict.{TableVerdict}
use Rattle.bus_regime.specs.declared.table_verdict.TableVerdict.TheVariants.{Accept, ShortCycle, SmallGap, NoSync}
use Rattle.bus_reach.specs.Bearing.{bears}
use Rattle.bus_regime.specs.Starting.{starts_itself}

-- The greatest number up to a bound that a test takes, and 0 where it takes none.
abbrev pub greatest_to : (ℕ → Bool) → ℕ → ℕ
greatest_to test zero = zero
greatest_to test (suc n) = if test (suc n) then suc n else greatest_to test n

-- The tolerance of an accepted table: the greatest delay that it bears, or None where it has one sender, which bears every delay. No other
-- bears a delay of two transmit intervals.
abbrev pub tolerance_of : Table → Option ℕ
tolerance_of table = if length table.senders == 1 then None else Some (greatest_to (bears table) (2 * table.ti))

-- Its word.
abbrev pub tolerance_word : Option ℕ → List ℕ
tolerance_word None = codes "any"
tolerance_word (Some d) = decimal d

-- How far apart two starts of one of so many senders are at most, with delays up to the tolerance: in aperiodic mode farther by that for
-- each sender, where there are several.
abbrev pub most_apart : Mode → ℕ → Option ℕ → ℕ → ℕ
most_apart Aperiodic senders (Some d) most = most + senders * d
most_apart Aperiodic senders None most = most
most_apart Periodic senders tolerance most = most

-- Whether the order of a table of this mode comes about from any start.
abbrev pub starts_in : Mode → Table → Bool
starts_in Aperiodic table = starts_itself table
starts_in Periodic table = false

-- The word of that.
abbrev pub start_word : Bool → List ℕ
start_word true = codes "any"
start_word false = codes "settled"

-- A tolerance line of these fields.
abbrev pub tolerance_fields : Mode → Option ℕ → ℕ → ℕ → Bool → List ℕ
tolerance_fields mode tolerance least most starts =
    codes "TOLERANCE " ++ mode_word mode ++ 32 ∷ [] ++ tolerance_word tolerance ++ 32 ∷ [] ++ decimal least ++ 32 ∷ []
    ++ decimal most ++ 32 ∷ [] ++ start_word starts ++ 10 ∷ []

-- The tolerance line of a table.
abbrev pub tolerance_line : Table → ℕ → ℕ → List ℕ
tolerance_line table least most =
    tolerance_fields table.mode (tolerance_of table) least (most_apart table.mode (length table.senders) (tolerance_of table) most)
    (starts_in table.mode table)

-- What is written of a table with this verdict.
abbrev pub tolerance_text : TableVerdict → Table → List ℕ
tolerance_text (Accept mode least most) table = tolerance_line table least most
tolerance_text (ShortCycle least ti) table = verdict_line (ShortCycle least ti)
tolerance_text (SmallGap terminal gap needed) table = verdict_line (SmallGap terminal gap needed)
tolerance_text (NoSync terminal gap needed) table = verdict_line (NoSync terminal gap needed)
