-- What single number of a table to change so that it is accepted, or starts itself, and the least such change, by this project's profile.
--
-- A shortest cycle below the transmit interval is helped by a lesser interval, or by a longer cycle: a greater synchronization gap, a
-- greater terminal gap, or more data words at least; or by periodic mode. Gaps that are too small are helped by a greater interval, or by
-- other offsets. An accepted aperiodic table that doesn't start itself is helped by a lesser interval. Each number is looked for from the
-- table's own on, in that direction.
use Rattle.std.specs.Prelude.{ℕ, suc, ◌+◌, Bool, false, not, ◌&&◌, List, [], ◌∷◌, ◌++◌, Option, None, if◌then◌else◌}
use Rattle.std.specs.List.{flat_map}
use Rattle.std.specs.Option.{option_map, option_to_list}
use Rattle.bus_table.specs.declared.mode.Mode.{Mode}
use Rattle.bus_table.specs.declared.mode.Mode.TheVariants.{Aperiodic, Periodic}
use Rattle.bus_table.specs.declared.line.SendLine.{SendLine}
use Rattle.bus_table.specs.Periodic.{as_periodic}
use Rattle.bus_table.specs.Tables.{Sender, Table}
use Rattle.bus_table.specs.Turns.{turn_order}
use Rattle.bus_table.specs.Valid.{is_valid}
use Rattle.bus_regime.specs.Starting.{starts_itself}
use Rattle.bus_regime.specs.Verdicts.{verdict_of, is_accepted}
use Rattle.bus_plan.specs.Plans.{planned_table}
use Rattle.bus_advice.specs.declared.advice.Advice.{Advice}
use Rattle.bus_advice.specs.declared.advice.Advice.TheVariants.{Interval, Synchronization, Gap, Least, Plan, AsPeriodic, Start}
use Rattle.bus_advice.specs.Changes.{with_interval, with_synchronization, with_gap, with_least}
use Rattle.bus_advice.specs.Search.{least_from, least_above, greatest_below}

-- A table works where it is valid and accepted.
abbrev pub works : Table → Bool
works table = is_valid table && is_accepted (verdict_of table)

-- An aperiodic table starts where it works, and starts itself.
abbrev pub starts : Table → Bool
starts table = works table && starts_itself table

-- The greatest lesser transmit interval.
abbrev pub lesser_interval : Table → Option ℕ
lesser_interval table = greatest_below (λ ti. works (with_interval ti table)) table.ti

-- The least greater transmit interval, with the offsets that stand.
abbrev pub greater_interval : Table → Option ℕ
greater_interval table = least_above (λ ti. works (with_interval ti table)) table.ti

-- The least greater synchronization gap.
abbrev pub greater_synchronization : Table → Option ℕ
greater_synchronization table = least_above (λ sg. works (with_synchronization sg table)) table.sg

-- The least greater terminal gap of a sender.
abbrev pub greater_gap : Table → Sender → Option ℕ
greater_gap table sender = least_above (λ tg. works (with_gap sender.number tg table)) sender.tg

-- The least greater number of data words to send at least, on the line at this place of a terminal.
abbrev pub greater_least : Table → ℕ → ℕ → SendLine → Option ℕ
greater_least table terminal place line = least_above (λ least. works (with_least terminal place least table)) line.least

-- The least transmit interval from the table's own on at which the table works with the offsets of its plan.
abbrev pub planned_interval : Table → Option ℕ
planned_interval table = least_from (λ ti. works (planned_table (with_interval ti table))) table.ti

-- The least transmit interval from the table's own on at which it works as a periodic table with the offsets of its plan.
abbrev pub periodic_interval : Table → Option ℕ
periodic_interval table = least_from (λ ti. works (planned_table (as_periodic ti table))) table.ti

-- The greatest lesser transmit interval with which the table starts.
abbrev pub starting_interval : Table → Option ℕ
starting_interval table = greatest_below (λ ti. starts (with_interval ti table)) table.ti

-- The advice on the terminal gap of a sender, where there is one.
abbrev pub gap_advice : Table → Sender → List Advice
gap_advice table sender = option_to_list (option_map (Gap sender.number) (greater_gap table sender))

-- The advice on the SEND line at this place of a terminal, where there is one; advices count lines from 1.
abbrev pub line_advice : Table → ℕ → ℕ → SendLine → List Advice
line_advice table terminal place line = option_to_list (option_map (Least terminal (place + 1)) (greater_least table terminal place line))

-- The advices on the SEND lines of a terminal, of which the first of these stands at this place.
abbrev pub line_advices : Table → ℕ → ℕ → List SendLine → List Advice
line_advices table terminal place [] = []
line_advices table terminal place (line ∷ lines) =
    line_advice table terminal place line ++ line_advices table terminal (suc place) lines

-- The advices on the SEND lines of a sender.
abbrev pub least_advices : Table → Sender → List Advice
least_advices table sender = line_advices table sender.number 0 sender.sends

-- The advices on a refused table whose senders stand by this mode: TI, SG, TG in turn order, SEND lines in turn order, plan, and periodic
-- mode behind the others.
abbrev pub advices_in : Mode → Table → List Advice
advices_in Aperiodic table =
    option_to_list (option_map Interval (lesser_interval table))
    ++ option_to_list (option_map Synchronization (greater_synchronization table))
    ++ flat_map (gap_advice table) (turn_order table)
    ++ flat_map (least_advices table) (turn_order table)
    ++ option_to_list (option_map AsPeriodic (periodic_interval table))
advices_in Periodic table =
    option_to_list (option_map Interval (greater_interval table))
    ++ option_to_list (option_map Plan (planned_interval table))

-- Whether an accepted table of this mode is one that may need a start: an aperiodic one that doesn't start itself.
abbrev pub lacks_start : Mode → Table → Bool
lacks_start Aperiodic table = not (starts_itself table)
lacks_start Periodic table = false

-- The advices on an accepted table: it needs none but to start itself, where it is aperiodic and doesn't.
abbrev pub start_advices : Table → List Advice
start_advices table =
    if lacks_start table.mode table then option_to_list (option_map Start (starting_interval table)) else []

-- All advices on a table.
abbrev pub advices_of : Table → List Advice
advices_of table = if is_accepted (verdict_of table) then start_advices table else advices_in table.mode table

-- A table in periodic mode at that interval, with the offsets of its plan.
abbrev pub planned_periodic : Table → Option Table
planned_periodic table = option_map (λ ti. planned_table (as_periodic ti table)) (periodic_interval table)

-- The same of a refused table of this mode; one that is periodic stays as it is.
abbrev pub periodic_in : Mode → Table → Option Table
periodic_in Aperiodic table = planned_periodic table
periodic_in Periodic table = None

-- The table that the advice to make a table periodic makes of it, where there is one.
abbrev pub periodic_table : Table → Option Table
periodic_table table = if is_accepted (verdict_of table) then None else periodic_in table.mode table
