use Rattle.std.proofs.Common.{◌<◌, ◌+◌, ◌-◌, ◌^◌, ◌∷◌, length}
use Rattle.std.specs.List.{AllByRecursion}
use Rattle.bus_cycles.specs.Faults.{any_marked}
use Rattle.bus_cycles.specs.inside.Bounds.{IsSent}
use Rattle.bus_cycles.specs.inside.Seeking.{Seeks}
use Rattle.bus_cycles.specs.Rows.{rows_of}
use Rattle.bus_cycles.proofs.marked.any_marked_from.Given as goal

abbrev pub invariant-loop-sent : goal.invariant-loop-sent
invariant-loop-sent l = record {
  seeks : Seeks l.cycle l.judgements (any_marked l.judgements (rows_of l.cycle (l.first ∷ l.fn.left))) l.marked l.any l.row l.sent-iterator;
  each : AllByRecursion IsSent l.sent-iterator;
  few : l.row.place + length l.sent-iterator < 2 ^ 64 - 1;
}
