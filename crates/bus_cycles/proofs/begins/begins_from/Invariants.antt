use Rattle.std.proofs.Common.{◌≡◌, ◌<◌, ◌+◌, ◌-◌, ◌^◌, ◌∷◌, length, min}
use Rattle.std.specs.List.{AllByRecursion}
use Rattle.arrayvec.specs.ArrayVec.{array_vec_len}
use Rattle.bus_cycles.specs.Dues.{begins_of}
use Rattle.bus_cycles.specs.inside.Beginning.{Begins}
use Rattle.bus_cycles.specs.inside.Bounds.{IsSent}
use Rattle.bus_cycles.specs.Rows.{rows_of}
use Rattle.bus_cycles.proofs.begins.begins_from.Given as goal

abbrev pub invariant-loop-sent : goal.invariant-loop-sent
invariant-loop-sent l = record {
  told : Begins l.cycle (begins_of (rows_of l.cycle (l.first ∷ l.fn.left))) l.begins.items l.row l.sent-iterator;
  long : array_vec_len l.begins ≡ min l.row.place 500;
  each : AllByRecursion IsSent l.sent-iterator;
  few : l.row.place + length l.sent-iterator < 2 ^ 64 - 1;
}
