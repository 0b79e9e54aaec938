-- Plans that bear a delay d: the least intervals, and the offsets.
use Rattle.std.specs.Prelude.{ℕ, ◌+◌, ◌-◌, ◌/◌, ◌%◌, min, List, [], ◌∷◌, length, map}
use Rattle.std.specs.List.{sum_by}
use Rattle.bus_table.specs.Tables.{Sender, Table}
use Rattle.bus_table.specs.Lengths.{longest}
use Rattle.bus_table.specs.Offsets.{at_offset, with_offsets}
use Rattle.bus_table.specs.Ranges.{most_tg}
use Rattle.bus_table.specs.Turns.{turn_order}
use Rattle.bus_plan.specs.Plans.{offset_in}
use Rattle.bus_cable_plan.specs.Shapes.{gap_in, needed, shape_of}

-- A sender's turn: its terminal gap, d, and its longest message.
abbrev pub turn_time : ℕ → Sender → ℕ
turn_time d sender = sender.tg + d + longest sender

-- The turns of all senders: of two or more, no interval is shorter in which offsets bear d.
abbrev pub turns_for : ℕ → Table → ℕ
turns_for d table = sum_by (turn_time d) table.senders

-- The least interval in which a plan that keeps the turn order of the table bears d.
abbrev pub least_in_order : ℕ → Table → ℕ
least_in_order d table = needed d (shape_of d table) table.senders

-- The table with its senders in the order of their terminal gaps, the greatest first. Its offsets stand for that order alone.
abbrev pub by_gap : Table → Table
by_gap table = with_offsets (map (λ sender. most_tg - sender.tg) table.senders) table

-- The least interval in which a plan bears d: that of this order, in which the two senders with the greatest terminal gaps are neighbours.
abbrev pub least_interval_for : ℕ → Table → ℕ
least_interval_for d table = least_in_order d (by_gap table)

-- Senders one behind the other from `end` on, each by its gap behind the longest end of the one before, and of the first of them so many as
-- `rest` by one bit time more.
abbrev pub behind : (Sender → ℕ) → ℕ → ℕ → List Sender → List Sender
behind gap end rest [] = []
behind gap end rest (sender ∷ order) =
    at_offset (end + (gap sender + min rest 1)) sender
    ∷ behind gap (end + (gap sender + min rest 1) + longest sender) (rest - 1) order

-- The senders of an order, the first at 0. Its own gap, one of those with one bit time more where `rest` isn't 0, is what the others leave.
abbrev pub laid_out : (Sender → ℕ) → ℕ → List Sender → List Sender
laid_out gap rest [] = []
laid_out gap rest (sender ∷ order) = at_offset 0 sender ∷ behind gap (longest sender) (rest - 1) order

-- What the interval leaves beyond what the shape needs.
abbrev pub left_over : ℕ → Table → ℕ
left_over d table = table.ti - least_in_order d table

-- The share of each gap in that.
abbrev pub share : ℕ → Table → ℕ
share d table = left_over d table / length table.senders

-- The senders in turn order with the gaps of the shape that needs least. What is left over is shared evenly before all senders, and the
-- rest of that goes to the first of them, one bit time each.
abbrev pub plan_in_order : ℕ → Table → List Sender
plan_in_order d table =
    laid_out (λ sender. gap_in d (shape_of d table) sender + share d table) (left_over d table % length table.senders) (turn_order table)

-- Their offsets, in table order.
abbrev pub offsets_in_order : ℕ → Table → List ℕ
offsets_in_order d table = map (λ sender. offset_in (plan_in_order d table) sender.number) table.senders

-- The table planned for d in its own turn order.
abbrev pub planned_in_order : ℕ → Table → Table
planned_in_order d table = with_offsets (offsets_in_order d table) table

-- The offsets that a table has, in table order.
abbrev pub given_offsets : Table → List ℕ
given_offsets table = map (λ sender. sender.at) table.senders

-- The table with this transmit interval.
abbrev pub with_interval : ℕ → Table → Table
with_interval ti table =
    record { mode = table.mode; ti = ti; sg = table.sg; senders = table.senders; listeners = table.listeners }

-- The offsets and the table planned for d in the order of terminal gaps.
abbrev pub offsets_by_gap : ℕ → Table → List ℕ
offsets_by_gap d table = offsets_in_order d (by_gap table)

abbrev pub planned_by_gap : ℕ → Table → Table
planned_by_gap d table = with_offsets (offsets_by_gap d table) table
