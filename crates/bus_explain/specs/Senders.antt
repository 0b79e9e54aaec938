-- What is said of the senders of an accepted table: first what they have in common, then lines that name the columns and their units, then
-- a line for each sender in turn order, with its own numbers alone.
--   most   the verdict's: two starts of a sender are at most so far apart
use Rattle.std.specs.Prelude.{ℕ, List, [], ◌∷◌, ◌++◌, codes}
use Rattle.std.specs.List.{flat_map}
use Rattle.bus_say.specs.Sentences.{said}
use Rattle.bus_table.specs.declared.mode.Mode.{Mode}
use Rattle.bus_table.specs.declared.mode.Mode.TheVariants.{Aperiodic, Periodic}
use Rattle.bus_table.specs.Lengths.{shortest, longest}
use Rattle.bus_table.specs.Tables.{Sender, Table}
use Rattle.bus_table.specs.Turns.{turn_order}
use Rattle.bus_regime.specs.Gaps.{Gap, gaps}
use Rattle.bus_explain.specs.Columns.{number_column, time_columns}
use Rattle.bus_explain.specs.Figures.{gap_bits}
use Rattle.bus_explain.specs.declared.wordings.TheConstants as the

-- The terminal gap of a sender, and its shortest and its longest message.
abbrev pub last_columns : (tg short long : ℕ) → List ℕ
last_columns tg short long = time_columns tg ++ time_columns short ++ time_columns long ++ codes "\n"

-- The line of a sender whose gap before each message is its terminal gap, and before a cycle the synchronization gap too.
abbrev pub turn_row : Sender → List ℕ
turn_row sender = number_column sender.number ++ last_columns sender.tg (shortest sender) (longest sender)

-- The line of the sender behind this gap, which starts at its offset.
abbrev pub offset_row : Gap → List ℕ
offset_row gap =
    number_column gap.sender.number ++ time_columns gap.sender.at ++ time_columns (gap_bits gap)
    ++ last_columns gap.sender.tg (shortest gap.sender) (longest gap.sender)

-- All that is said of the senders of a table of this mode.
abbrev pub senders_text : Mode → Table → ℕ → List ℕ
senders_text Aperiodic table most = said the.TURNS.now (most ∷ []) ++ flat_map turn_row (turn_order table)
senders_text Periodic table most = said the.OFFSETS.now (most ∷ []) ++ flat_map offset_row (gaps table)
