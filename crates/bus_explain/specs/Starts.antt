-- What is said of the start of an accepted table: whether its order comes about by itself.
--   starts   whether the table starts itself
--   never    whether its senders never part once they all start at once
use Rattle.std.specs.Prelude.{ℕ, Bool, true, false, ◌==◌, List, [], ◌++◌, length}
use Rattle.std.specs.List.{flat_map}
use Rattle.bus_say.specs.Sentences.{said}
use Rattle.bus_table.specs.declared.mode.Mode.{Mode}
use Rattle.bus_table.specs.declared.mode.Mode.TheVariants.{Aperiodic, Periodic}
use Rattle.bus_table.specs.Tables.{Table}
use Rattle.bus_regime.specs.Starting.{never_parts, starts_itself}
use Rattle.bus_advice.specs.declared.advice.Advice.{Advice}
use Rattle.bus_explain.specs.Advised.{advice_line}
use Rattle.bus_explain.specs.declared.wordings.TheConstants as the

-- That it doesn't start itself, and what that can mean.
abbrev pub start_wording : Bool → List ℕ
start_wording true = the.NEVER_PARTS.now
start_wording false = the.MAY_START.now

-- What stands before the advice to start, where there is none.
abbrev pub advice_wording : Bool → List ℕ
advice_wording true = the.NO_START.now
advice_wording false = []

-- What is said of an aperiodic table, on which there are these advices to start, one or none.
abbrev pub start_lines : (starts never : Bool) → List Advice → List ℕ
start_lines true never advices = said the.STARTS.now []
start_lines false never advices =
    said (start_wording never) [] ++ said (advice_wording (length advices == 0)) [] ++ flat_map advice_line advices

-- What is said of a table of this mode; nothing of a periodic one, of which no start but the settled one is known.
abbrev pub start_text : Mode → Table → List Advice → List ℕ
start_text Aperiodic table advices = start_lines (starts_itself table) (never_parts table) advices
start_text Periodic table advices = []
