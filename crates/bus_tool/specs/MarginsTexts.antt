-- What `margins` writes of a table: what it tells of an accepted one, or the verdict line of a table that is refused.
use Rattle.std.specs.Prelude.{ℕ, List}
use Rattle.bus_bounds.specs.Bounds.{Bounds}
use Rattle.bus_margins.specs.Texts.{aperiodic_text}
use Rattle.bus_margins_periodic.specs.Texts.{periodic_text}
use Rattle.bus_regime.specs.Lines.{verdict_line}
use Rattle.bus_regime.specs.declared.table_verdict.TableVerdict.{TableVerdict}
use Rattle.bus_regime.specs.declared.table_verdict.TableVerdict.TheVariants.{Accept, ShortCycle, SmallGap, NoSync}
use Rattle.bus_table.specs.declared.mode.Mode.{Mode}
use Rattle.bus_table.specs.declared.mode.Mode.TheVariants.{Aperiodic, Periodic}
use Rattle.bus_table.specs.Tables.{Table}

-- What is written of a table of this mode.
abbrev pub margins_text : Mode → Bounds → Table → List ℕ
margins_text Aperiodic bounds table = aperiodic_text bounds table
margins_text Periodic bounds table = periodic_text bounds table

-- What is written of a table with this verdict.
abbrev pub margins_answer : TableVerdict → Bounds → Table → List ℕ
margins_answer (Accept mode least most) bounds table = margins_text table.mode bounds table
margins_answer (ShortCycle least ti) bounds table = verdict_line (ShortCycle least ti)
margins_answer (SmallGap terminal gap needed) bounds table = verdict_line (SmallGap terminal gap needed)
margins_answer (NoSync terminal gap needed) bounds table = verdict_line (NoSync terminal gap needed)
