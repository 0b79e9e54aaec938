-- What is said of a table that the verdict refuses: which sum or gap fails, and by how many bit times.
use Rattle.std.specs.Prelude.{ℕ, ◌+◌, ◌-◌, ℤ, pos, int_lt, unsigned_abs, List, [], ◌∷◌, ◌++◌, Option, Some, None, if◌then◌else◌}
use Rattle.bus_say.specs.Sentences.{said}
use Rattle.bus_table.specs.Canonical.{table_text}
use Rattle.bus_table.specs.Tables.{Table}
use Rattle.bus_regime.specs.declared.table_verdict.TableVerdict.{TableVerdict}
use Rattle.bus_regime.specs.declared.table_verdict.TableVerdict.TheVariants.{Accept, ShortCycle, SmallGap, NoSync}
use Rattle.bus_advice.specs.declared.advice.Advice.{Advice}
use Rattle.bus_takes.specs.Takes.{takes_text}
use Rattle.bus_explain.specs.Advised.{advised_text}
use Rattle.bus_explain.specs.declared.wordings.TheConstants as the

-- By how much a gap, which is below 0 where it is an overlap, is less than what it should be.
abbrev pub missing : ℤ → ℕ → ℕ
missing gap needed = if int_lt gap (pos 0) then needed + unsigned_abs gap else needed - unsigned_abs gap

-- What is said of a verdict; nothing of one that accepts.
abbrev pub refusal_text : TableVerdict → List ℕ
refusal_text (Accept mode least most) = []
refusal_text (ShortCycle least ti) = said the.SHORT_CYCLE.now (least ∷ (ti - least) ∷ ti ∷ [])
refusal_text (SmallGap terminal gap needed) = said the.SMALL_GAP.now (terminal ∷ missing gap needed ∷ needed ∷ [])
refusal_text (NoSync terminal gap needed) = said the.NO_SYNC.now (terminal ∷ (needed - gap) ∷ needed ∷ [])

-- A table that an advice makes of another: its canonical text, ready to copy.
abbrev pub made_text : Table → List ℕ
made_text table = said the.MADE.now [] ++ table_text table

-- The planned table that the advice on periodic mode makes of a table, where there is one.
abbrev pub planned_text : Option Table → List ℕ
planned_text None = []
planned_text (Some table) = made_text table

-- All that is said of a refused table, on which there are these advices, of which one makes it this periodic table.
abbrev pub refused_text : Table → TableVerdict → List Advice → Option Table → List ℕ
refused_text table verdict advices planned = refusal_text verdict ++ advised_text advices ++ takes_text table ++ planned_text planned
