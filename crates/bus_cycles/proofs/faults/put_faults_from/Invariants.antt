use Rattle.std.proofs.Common.{◌<◌, ◌+◌, ◌-◌, ◌^◌, ◌∷◌, length}
use Rattle.std.specs.List.{AllByRecursion}
use Rattle.bus_cycles.specs.Faults.{faults_of}
use Rattle.bus_cycles.specs.inside.Bounds.{IsSent}
use Rattle.bus_cycles.specs.inside.Marking.{Marks}
use Rattle.bus_cycles.specs.Rows.{rows_of}
use Rattle.bus_cycles.proofs.faults.put_faults_from.Given as goal

abbrev pub invariant-loop-sent : goal.invariant-loop-sent
invariant-loop-sent g l = record {
  marks : Marks g.K.Sink.held g.K.Sink.faults l.fn.sink l.sink l.fn.text l.text l.page l.judgements
      (faults_of l.page l.judgements (rows_of l.page.cycle (l.first ∷ l.fn.left))) l.row l.any l.sent-iterator;
  each : AllByRecursion IsSent l.sent-iterator;
  few : l.row.place + length l.sent-iterator < 2 ^ 64 - 1;
}
