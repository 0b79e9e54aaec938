use Rattle.std.proofs.Common.{◌≡◌, ◌≤◌, take}
use Rattle.bus_cycles.specs.Dues.{due_rows}
use Rattle.bus_cycles.proofs.due.due_rows.Given as goal

abbrev pub invariant-loop-begin : goal.invariant-loop-begin
invariant-loop-begin l = record {
  count_is : l.count ≡ due_rows l.ti l.held (take l.begin-index l.begins);
  few : l.count ≤ l.begin-index;
}
