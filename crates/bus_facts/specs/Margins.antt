-- What an accepted table promises where oscillators are off by up to 50 millionths and nothing else is inexact: its level, by the word with
-- which `margins T 0 0 50` tells it.
use Rattle.std.specs.Prelude.{List, ℕ, codes}
use Rattle.serde_json.specs.Data.{Data, string, object, member, no_members}
use Rattle.bus_bounds.specs.Bounds.{Bounds}
use Rattle.bus_table.specs.declared.mode.Mode.{Mode}
use Rattle.bus_table.specs.declared.mode.Mode.TheVariants.{Aperiodic, Periodic}
use Rattle.bus_table.specs.Tables.{Table}
use Rattle.bus_margins.specs.Rooms as aperiodic
use Rattle.bus_margins.specs.Texts as aperiodic_texts
use Rattle.bus_margins_periodic.specs.Margins as periodic
use Rattle.bus_margins_periodic.specs.Sentences.{drifting}
use Rattle.bus_margins_periodic.specs.Texts as periodic_texts
use Rattle.bus_facts.specs.Values.{count}

-- The word of the level of a table of this mode, within bounds.
abbrev pub level_word_in : Mode → Bounds → Table → List ℕ
level_word_in Aperiodic bounds table = aperiodic_texts.level_word (aperiodic.level_of bounds table)
level_word_in Periodic bounds table = periodic_texts.level_word (periodic.level_of bounds table)

-- Bounds, and a level within them.
abbrev pub level_value : Bounds → (level : List ℕ) → Data
level_value bounds level =
    object (member (codes "clocks") (count bounds.clocks)
    (member (codes "delay") (count bounds.delay)
    (member (codes "jitter") (count bounds.jitter)
    (member (codes "level") (string level) no_members))))

-- What is told of the level of a table.
abbrev pub margins_value : Table → Data
margins_value table = level_value drifting (level_word_in table.mode drifting table)
