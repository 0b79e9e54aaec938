-- A window of a file: the part of it that begins at a bit time or later, counted from there.
use Rattle.std.specs.Prelude.{◌≡◌, ℕ, ◌+◌, ◌≤◌, List}
use Rattle.bus_clocks.specs.Entries.{Entry, In}
use Rattle.bus_clocks.specs.Courses.{Course}
use Rattle.bus_recording.specs.Files.{IsFile, IsToldOf}
use Rattle.bus_recording.specs.Seen.{IsIn, Monitor, Seen}
use Rattle.bus_recording.specs.Shifts.{later}

-- The window has what the file has from bit time `base` on, counted from there, and nothing else.
pub record IsWindow (base : ℕ) (file window : List Seen) : Type 0 where
  pub each : (r : Seen) → IsIn r window → IsIn (later base r) file
  pub all : (r : Seen) → IsIn r file → base ≤ r.moment → (w : Seen) × IsIn w window × (r ≡ later base w)

-- A window of a file is the file of a monitor that began so many bit times later.
abbrev pub WindowIsFile : Type 0
WindowIsFile =
    (bit start end base : ℕ) (arrives : Entry → ℕ) (noted : Entry → Seen) (list : List Entry) (file window : List Seen)
    → IsFile bit arrives noted start end list file → IsWindow base file window → IsFile bit arrives noted (start + base) end list window

-- And what is told of the monitor is true of it too, where no transmission on the bus is longer than is told.
abbrev pub WindowIsTold : Type 0
WindowIsTold =
    (c : Course) (arrives : Entry → ℕ) (k reach drop bit start base longest : ℕ) (monitor : Monitor)
    → ((x : Entry) → In x c.list → x.length ≤ longest) → IsToldOf c arrives k reach drop bit start longest monitor
    → IsToldOf c arrives k reach drop bit (start + base) longest monitor
