-- What a page begins with: the verdict in words, and the figures of an accepted table.
--   least, most   the verdict's
use Rattle.std.specs.Prelude.{ℕ, Bool, true, false, List, ◌++◌, codes, decimal, Option, Some, None, unwrap_or}
use Rattle.bus_table.specs.declared.mode.Mode.{Mode}
use Rattle.bus_table.specs.declared.mode.Mode.TheVariants.{Aperiodic, Periodic}
use Rattle.bus_table.specs.Tables.{Table}
use Rattle.bus_regime.specs.declared.table_verdict.TableVerdict.{TableVerdict}
use Rattle.bus_regime.specs.Lines.{verdict_words}
use Rattle.bus_explain.specs.Figures.{load, load_words, spare}
use Rattle.bus_say.specs.Times.{time_text}
use Rattle.bus_bounds.specs.Bounds.{Bounds}
use Rattle.bus_margins.specs.declared.level.Level.{Level as AperiodicLevel}
use Rattle.bus_margins.specs.declared.level.Level.TheVariants as aperiodic_levels
use Rattle.bus_margins.specs.Rooms as aperiodic_rooms
use Rattle.bus_margins_periodic.specs.declared.level.Level.{Level as PeriodicLevel}
use Rattle.bus_margins_periodic.specs.declared.level.Level.TheVariants as periodic_levels
use Rattle.bus_margins_periodic.specs.Margins as periodic_margins
use Rattle.bus_margins_periodic.specs.Sentences.{drifting}
use Rattle.bus_page.specs.Styles.{style_text}

-- Up to the words of the title, and behind them up to the body.
abbrev pub head_front : List ℕ
head_front =
    codes "<!doctype html>\n<html lang=\"en\">\n<head>\n<meta charset=\"utf-8\">\n"
    ++ codes "<meta name=\"viewport\" content=\"width=device-width\">\n<title>"

abbrev pub head_end : List ℕ
head_end = codes "</title>\n" ++ style_text ++ codes "</head>\n<body>\n"

-- Up to the body: the title is the verdict line, or that there is no table.
abbrev pub head_text : TableVerdict → List ℕ
head_text verdict = head_front ++ verdict_words verdict ++ head_end

abbrev pub bare_head_text : List ℕ
bare_head_text = head_front ++ codes "No valid table" ++ head_end

-- The heading of a table that is accepted, of one that isn't, and of a text that gives none.
abbrev pub heading_text : Bool → List ℕ
heading_text true = codes "<h1>The table is accepted</h1>\n"
heading_text false = codes "<h1 class=\"refused\">The table is refused</h1>\n"

abbrev pub bare_heading_text : List ℕ
bare_heading_text = codes "<h1 class=\"refused\">The text gives no valid table</h1>\n"

-- The verdict line.
abbrev pub verdict_text : TableVerdict → List ℕ
verdict_text verdict = codes "<p><code>" ++ verdict_words verdict ++ codes "</code></p>\n"

-- The heading of a section.
abbrev pub section_text : List ℕ → List ℕ
section_text title = codes "<h2>" ++ title ++ codes "</h2>\n"

-- ---- figures
-- A figure up to its value: its name.
abbrev pub figure_front : List ℕ → List ℕ
figure_front name = codes "<div><dt>" ++ name ++ codes "</dt><dd>"

-- Its end.
abbrev pub figure_end : List ℕ
figure_end = codes "</dd></div>\n"

-- A figure with its value.
abbrev pub figure : List ℕ → List ℕ → List ℕ
figure name value = figure_front name ++ value ++ figure_end

-- Two lengths.
abbrev pub both_words : (least most : ℕ) → List ℕ
both_words least most = time_text least ++ codes " to " ++ time_text most

-- How long cycles are: of two lengths in aperiodic mode, and of one in periodic mode.
abbrev pub cycle_words : Mode → (least most : ℕ) → List ℕ
cycle_words Aperiodic least most = both_words least most
cycle_words Periodic least most = time_text most

-- How much delay it bears.
abbrev pub tolerance_words : Option ℕ → List ℕ
tolerance_words None = codes "without end"
tolerance_words (Some delay) = time_text delay

-- The level of an aperiodic table, by its word in `margins`, and what that is.
abbrev pub aperiodic_words : AperiodicLevel → List ℕ
aperiodic_words aperiodic_levels.Any = codes "any: order comes by itself from any state"
aperiodic_words aperiodic_levels.Common = codes "common: order stands from a common start"
aperiodic_words aperiodic_levels.Neither = codes "none: nothing is told"

-- That of a periodic table.
abbrev pub periodic_words : PeriodicLevel → List ℕ
periodic_words periodic_levels.Turns = codes "turns: from a common start all take turns for ever"
periodic_words periodic_levels.Leads = codes "leads: from a common start all take turns for ever behind the first sender"
periodic_words periodic_levels.Neither = codes "none: nothing is told"

-- The bounds that are asked for; where none are, oscillators are off by up to 50 millionths, and nothing else is inexact.
abbrev pub bounds_of : Option Bounds → Bounds
bounds_of asked = unwrap_or asked drifting

-- The level of a table of this mode within bounds.
abbrev pub level_words : Mode → Bounds → Table → List ℕ
level_words Aperiodic bounds table = aperiodic_words (aperiodic_rooms.level_of bounds table)
level_words Periodic bounds table = periodic_words (periodic_margins.level_of bounds table)

-- Within which bounds.
abbrev pub level_name : Bounds → List ℕ
level_name bounds =
    codes "level, within " ++ decimal bounds.delay ++ codes " ns of delay, " ++ decimal bounds.jitter
    ++ codes " ns of jitter, and clocks " ++ decimal bounds.clocks ++ codes " millionths off"

-- Each figure.
abbrev pub cycle_figure : Mode → (least most : ℕ) → List ℕ
cycle_figure mode least most = figure (codes "cycle") (cycle_words mode least most)

abbrev pub spare_figure : ℕ → List ℕ
spare_figure spare = figure (codes "spare") (time_text spare)

abbrev pub load_figure : ℕ → List ℕ
load_figure load = figure (codes "load") (load_words load)

abbrev pub tolerance_figure : Option ℕ → List ℕ
tolerance_figure tolerance = figure (codes "tolerance of delays") (tolerance_words tolerance)

abbrev pub level_figure : Bounds → Table → List ℕ
level_figure bounds table = figure (level_name bounds) (level_words table.mode bounds table)

-- The figures of an accepted table.
abbrev pub figures_text : Bounds → Table → (least most : ℕ) → Option ℕ → List ℕ
figures_text bounds table least most tolerance =
    codes "<dl>\n" ++ cycle_figure table.mode least most ++ spare_figure (spare table least) ++ load_figure (load table most)
    ++ tolerance_figure tolerance ++ level_figure bounds table ++ codes "</dl>\n"
