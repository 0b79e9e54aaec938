-- A window of a trace: what begins at a moment or later, counted from there. It stands in a file as the whole trace does, so that what is
-- proved of files is true of each window.
use Rattle.std.specs.Prelude.{◌≡◌, ℕ, ◌-◌, ◌≤◌, nat_lt, List, [], ◌∷◌, if◌then◌else◌}
use Rattle.bus_strings.specs.Messages.{Entry}
use Rattle.bus_table.specs.Tables.{Sender, Table}
use Rattle.bus_trace.specs.Traces.{Recording}
use Rattle.bus_bounds.specs.Bounds.{Bounds}
use Rattle.bus_clocks.specs.Entries.{Entry as Transmission, In}
use Rattle.bus_findings.specs.Files.{StandsInFile, KeepsInFile, IsInCourse}

-- A transmission, counted from so many bit times later.
abbrev pub moved : ℕ → Entry → Entry
moved base x = record { moment = x.moment - base; terminal = x.terminal; message = x.message }

-- What begins at bit time `base` or later, counted from there.
abbrev pub window_from : ℕ → List Entry → List Entry
window_from base [] = []
window_from base (x ∷ list) = if nat_lt x.moment base then window_from base list else moved base x ∷ window_from base list

-- No transmission on the bus is longer than is told.
abbrev pub AreNoLonger : (bounds : Bounds) (table : Table) (trace : Recording) (sender : Sender) → StandsInFile bounds table trace sender → Type 0
AreNoLonger bounds table trace sender stands = (x : Transmission) → In x stands.course.list → x.length ≤ stands.longest

-- A sender that keeps bounds in a file keeps them in each window of it,
abbrev pub WindowsKeep : Type 0
WindowsKeep =
    (bounds : Bounds) (table : Table) (trace window : Recording) (sender : Sender) (base : ℕ) (keeps : KeepsInFile bounds table trace sender)
    → AreNoLonger bounds table trace sender keeps.stands → window.list ≡ window_from base trace.list
    → KeepsInFile bounds table window sender

-- and a sender of a bus within bounds is one in each window.
abbrev pub WindowsAreOfCourses : Type 0
WindowsAreOfCourses =
    (bounds : Bounds) (table : Table) (trace window : Recording) (sender : Sender) (base : ℕ) (is : IsInCourse bounds table trace sender)
    → AreNoLonger bounds table trace sender is.stands → window.list ≡ window_from base trace.list
    → IsInCourse bounds table window sender
