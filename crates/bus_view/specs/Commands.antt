-- What each command is: the sources that it names, what is due of its texts, what it writes of them, and the cause of its refusal.
use Rattle.std.specs.Prelude.{◌≡◌, ℕ, false, List, Option, Some}
use Rattle.bus_bounds.specs.Bounds.{Bounds}
use Rattle.bus_table.specs.Tables.{Table}
use Rattle.bus_trace.specs.Traces.{Recording}
use Rattle.bus_dump.specs.Doubled.{doubled}
use Rattle.bus_command.specs.Causes.{AreTracedWith}
use Rattle.bus_command.specs.Commands.{Command, answering, telling}
use Rattle.bus_command.specs.Due.{table_refusal_of, text_due, recorded_due}
use Rattle.bus_command.specs.Readers.{by_recorded, entire, one_source}
use Rattle.bus_command.specs.Stages.{refusal_in}
use Rattle.bus_view.specs.Due.{recorded_answer, IsView, page_answer, IsPage}
use Rattle.bus_view.specs.Forms.{Form, OnTrace, OnItself, Page, View, hears}
use Rattle.bus_view.specs.Itself.{itself_text}
use Rattle.bus_view.specs.Refusals.{Doubled}

-- The first entry of a trace that is doubled.
abbrev pub IsDoubledAt : Doubled → Table → Recording → Type 0
IsDoubledAt refusal table trace = doubled trace.list ≡ Some refusal.entry

-- The cause of the one refusal.
abbrev pub Cause : Doubled → List ℕ → List ℕ → Type 0
Cause refusal first second = AreTracedWith (IsDoubledAt refusal) first second

-- A view of a trace on a table.
abbrev pub view_command : View → Command Doubled
view_command view =
    answering (by_recorded (hears view)) table_refusal_of (recorded_due (hears view)) (recorded_answer view) (IsView view) Cause

-- The page of a table, with its margins within the bounds that are asked for.
abbrev pub page_command : Option Bounds → Command Doubled
page_command asked =
    answering (one_source entire) (λ first. refusal_in (text_due 1 first)) (λ first second. text_due 1 first) page_answer (IsPage asked)
    Cause

-- The command of each form.
abbrev pub command_of : Form → Command Doubled
command_of (OnTrace view) = view_command view
command_of (OnItself about) = telling false (λ text. text ≡ itself_text about) Cause
command_of (Page asked) = page_command asked
