-- What is kept of a recording that grows.
use Rattle.std.specs.Prelude.{◌≡◌, ℕ, ◌^◌, ◌<◌, ◌≤◌, List, [], length}
use Rattle.bus_strings.specs.Limits.{horizon_limit}
use Rattle.bus_strings.specs.Messages.{Entry}
use Rattle.bus_table.specs.Tables.{Table}
use Rattle.bus_trace.specs.Traces.{Recording, IsTrace}
use Rattle.bus_bounds.specs.Bounds.{Bounds, most_clocks}
use Rattle.bus_findings.specs.declared.heard.Heard.{Heard}
use Rattle.bus_findings.specs.declared.watch.Watch.{Watch}
use Rattle.bus_findings.specs.Growing.{AreBy}
use Rattle.bus_findings.specs.Recorded.{settled_of}
use Rattle.bus_findings.specs.inside.Standing.{AreWatched, HasBegun, IsHeard}

-- The trace of a list, up to the greatest horizon.
abbrev pub trace_of : List Entry → Recording
trace_of list = record { horizon = horizon_limit; holds = []; list = list }

-- What is kept is that of all transmissions so far.
pub record IsGrown (bounds : Bounds) (table : Table) (settled : ℕ) (list : List Entry) (heard : Heard) (watches : List Watch) : Type 0 where
  pub near : bounds.delay ≤ 9
  pub clocks : bounds.clocks ≤ most_clocks
  pub known : settled ≡ settled_of bounds table
  pub low : settled < 2 ^ 40
  pub trace : IsTrace (trace_of list)
  pub hears : IsHeard bounds list (length list) heard
  pub begun : (moment : ℕ) → AreBy list moment → HasBegun bounds list moment heard
  pub watched : AreWatched bounds table list (length list) watches
