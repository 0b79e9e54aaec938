use Rattle.std.proofs.Common.{◌<◌, ◌≤◌, ◌+◌, ◌-◌, ◌^◌, ◌∷◌, length}
use Rattle.std.specs.List.{AllByRecursion}
use Rattle.bus_cycles.specs.inside.Drawing.{Draws}
use Rattle.bus_cycles.specs.Rows.{rows_of}
use Rattle.bus_cycles.specs.RowTexts.{walk_text}
use Rattle.bus_cycles.specs.inside.Bounds.{IsSent}
use Rattle.bus_cycles.proofs.boxes.put_rows_from.Given as goal

abbrev pub invariant-loop-sent : goal.invariant-loop-sent
invariant-loop-sent g l = record {
  draws : Draws g.K.Sink.held g.K.Sink.faults l.fn.sink l.sink l.fn.text l.text l.page l.garbled
      (walk_text l.page l.garbled (rows_of l.page.cycle (l.first ∷ l.fn.left))) l.row l.edges l.sent-iterator;
  each : AllByRecursion IsSent l.sent-iterator;
  few : l.row.place + length l.sent-iterator < 2 ^ 64 - 1;
  begin : l.row.begin ≤ 2 ^ 42;
  low : l.row.end ≤ 2 ^ 41;
}
