-- That findings are just: what keeps its bounds has none.
use Rattle.std.specs.Prelude.{ℕ, ◌+◌, ◌≤◌, List}
use Rattle.bus_clocks.specs.Entries.{Entry}
use Rattle.bus_clocks.specs.Courses.{Course}
use Rattle.bus_recording.specs.Seen.{Bounds, Monitor, Seen}
use Rattle.bus_recording.specs.Findings.{IsClean}
use Rattle.bus_recording.specs.Keeping.{KeepsBounds}
use Rattle.bus_recording.specs.Recordings.{IsRecording}

-- The bounds by which is judged are wider than those that are kept, at both ends of each timer, by the sway or more.
pub record AreWithin (sway : ℕ) (kept bounds : Bounds) : Type 0 where
  pub short_ti : bounds.short.ti + sway ≤ kept.short.ti
  pub short_sg : bounds.short.sg + sway ≤ kept.short.sg
  pub short_tg : bounds.short.tg + sway ≤ kept.short.tg
  pub long_ti : kept.long.ti + sway ≤ bounds.long.ti
  pub long_sg : kept.long.sg + sway ≤ bounds.long.sg
  pub long_tg : kept.long.tg + sway ≤ bounds.long.tg

-- A finding is just: a terminal that keeps its bounds has none by bounds that are wider by the sway, whatever the others do, whatever came
-- before the recording, and wherever the monitor is.
abbrev pub FindingsAreJust : Type 0
FindingsAreJust =
    (c : Course) (monitor : Monitor) (k from ahead sway : ℕ) (seen : Entry → Seen) (recording : List Seen) (kept bounds : Bounds)
    → KeepsBounds c kept k from → AreWithin sway kept bounds → IsRecording c monitor k from ahead sway seen recording
    → IsClean bounds monitor recording k
