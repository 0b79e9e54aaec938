-- What is said of an accepted table beyond itself: with other offsets, where clocks are off, and what is odd about its lines.
use Rattle.std.specs.Prelude.{ℕ, List, [], ◌∷◌, ◌++◌, Option, Some, None}
use Rattle.bus_say.specs.Sentences.{said}
use Rattle.bus_table.specs.declared.mode.Mode.{Mode}
use Rattle.bus_table.specs.declared.mode.Mode.TheVariants.{Aperiodic, Periodic}
use Rattle.bus_table.specs.Tables.{Table}
use Rattle.bus_margins.specs.declared.level.Level.{Level}
use Rattle.bus_margins.specs.declared.level.Level.TheVariants.{Any, Common, Neither}
use Rattle.bus_margins.specs.Rooms.{level_of}
use Rattle.bus_margins_periodic.specs.Sentences.{drifting, drifting_text}
use Rattle.bus_takes.specs.Takes.{takes_text}
use Rattle.bus_explain.specs.declared.wordings.TheConstants as the

-- The greatest delay that any offsets of a table bear, where it is known.
abbrev pub offsets_line : Option ℕ → List ℕ
offsets_line None = []
offsets_line (Some most) = said the.MOST_DELAY.now (most ∷ [])

-- What is said of an aperiodic table that has this level where clocks are off.
abbrev pub level_wording : Level → List ℕ
level_wording Any = the.DRIFTING_ANY.now
level_wording Common = the.DRIFTING_COMMON.now
level_wording Neither = the.DRIFTING_NONE.now

-- What is said of a table of this mode where oscillators are off by up to 50 millionths.
abbrev pub drifting_in : Mode → Table → List ℕ
drifting_in Aperiodic table = said (level_wording (level_of drifting table)) []
drifting_in Periodic table = drifting_text table

-- That, and what is odd about its lines.
abbrev pub rest_text : Table → List ℕ
rest_text table = drifting_in table.mode table ++ takes_text table

-- All of it, where any offsets bear this delay at most.
abbrev pub beyond_text : Option ℕ → Table → List ℕ
beyond_text most table = offsets_line most ++ rest_text table
