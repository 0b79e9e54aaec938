-- Where a sender is due in the rows, in periodic mode: at its offset behind the beginning of each interval, as often as it held a message.
-- A unit is a tenth of a pixel.
use Rattle.std.specs.Prelude.{ℕ, ◌-◌, ◌/◌, Bool, ◌==◌, nat_lt, List, [], filter, map, count_by, if◌then◌else◌}
use Rattle.std.specs.List.{flat_map}
use Rattle.bus_audit.specs.Breaches.{held}
use Rattle.bus_trace.specs.declared.hold.Hold.{Hold}
use Rattle.bus_table.specs.declared.mode.Mode.{Mode}
use Rattle.bus_table.specs.declared.mode.Mode.TheVariants.{Aperiodic, Periodic}
use Rattle.bus_table.specs.Tables.{Sender, Table}
use Rattle.bus_pen.specs.declared.area.Area.{Area}
use Rattle.bus_pen.specs.declared.class.Class.TheVariants.{Tick}
use Rattle.bus_pen.specs.Scales.{place}
use Rattle.bus_pen.specs.Shapes.{box_text}
use Rattle.bus_cycles.specs.declared.measures.TheConstants.{DUE_TOP as due_top, DUE_WIDTH as due_width}
use Rattle.bus_cycles.specs.Pages.{Page, top_of}
use Rattle.bus_cycles.specs.Rows.{Row}
use Rattle.bus_cycles.specs.Surveys.{is_drawn}

-- ---- in which rows
-- The moments at which the drawn rows begin.
abbrev pub begins_of : List Row → List ℕ
begins_of rows = map (λ (row : Row). row.begin) (filter (λ (row : Row). is_drawn row.place) rows)

-- The same in periodic mode; in aperiodic mode a sender has no offset, and no row is looked at.
abbrev pub begins_in : Mode → List Row → List ℕ
begins_in Aperiodic rows = []
begins_in Periodic rows = begins_of rows

-- Whether a start of a sender that held so many messages is due in the row that begins then: its intervals are the first so many from the
-- settled start on.
abbrev pub is_due_at : ℕ → ℕ → ℕ → Bool
is_due_at ti messages begin = nat_lt (begin / ti) messages

-- In how many of the rows that begin at these moments one is due. Rows ascend, so these are the first of them.
abbrev pub due_rows : ℕ → ℕ → List ℕ → ℕ
due_rows ti messages begins = count_by (is_due_at ti messages) begins

-- ---- lines
-- The line of an offset, over the first so many rows and a little above them.
abbrev pub due_line : Page → ℕ → ℕ → Area
due_line page at rows = record { left = place page.scale at; top = due_top; width = due_width; height = top_of page rows - due_top }

-- It is drawn where there are such rows.
abbrev pub due_over : Page → ℕ → ℕ → List ℕ
due_over page at rows = if rows == 0 then [] else box_text Tick (due_line page at rows)

-- Over how many of the rows that begin at these moments the line of a sender goes.
abbrev pub rows_of_due : Page → List Hold → List ℕ → Sender → ℕ
rows_of_due page holds begins sender = due_rows page.cycle.ti (held holds sender.number) begins

-- The line of a sender.
abbrev pub due_text : Page → List Hold → List ℕ → Sender → List ℕ
due_text page holds begins sender = due_over page sender.at (rows_of_due page holds begins sender)

-- The lines of senders.
abbrev pub each_due : Page → List Hold → List ℕ → List Sender → List ℕ
each_due page holds begins senders = flat_map (due_text page holds begins) senders

-- The lines of a table, for the rows that begin at these moments.
abbrev pub dues_text : Page → Table → List Hold → List ℕ → List ℕ
dues_text page table holds begins = each_due page holds begins table.senders
