use Rattle.std.proofs.Common.{◌<◌, ◌≤◌, ◌+◌, ◌-◌, ◌^◌, List, ◌∷◌, length}
use Rattle.std.specs.List.{AllByRecursion}
use Rattle.bus_strings.specs.Messages.{Entry}
use Rattle.bus_load.specs.Loads.{IsCarrierOf}
use Rattle.bus_cycles.specs.inside.Loading.{Loads}
use Rattle.bus_cycles.specs.Loads.{loads_text}
use Rattle.bus_cycles.specs.Rows.{rows_of}
use Rattle.bus_cycles.specs.inside.Bounds.{IsSent}
use Rattle.bus_cycles.proofs.load.put_loads_from.Given as goal

abbrev pub invariant-loop-sent : goal.invariant-loop-sent
invariant-loop-sent g l = record {
  loads : (list : List Entry) → IsCarrierOf l.carrier list → Loads g.K.Sink.held g.K.Sink.faults l.fn.sink l.sink l.fn.text l.text l.page list
      (loads_text l.page list (rows_of l.page.cycle (l.first ∷ l.fn.left))) l.row l.sent-iterator;
  each : AllByRecursion IsSent l.sent-iterator;
  few : l.row.place + length l.sent-iterator < 2 ^ 64 - 1;
  low : l.row.end ≤ 2 ^ 41;
  begin : l.row.begin ≤ 2 ^ 42;
}
