use Rattle.std.proofs.Common.{◌≡◌, ◌+◌, ◌*◌, ◌≤◌, ◌++◌, drop}
use Rattle.bus_table.specs.Turns.{turn_order}
use Rattle.bus_page.specs.Turns.{turns_from, turns_of}
use Rattle.bus_page.proofs.turn.turns.Given as goal

abbrev pub invariant-loop-k : goal.invariant-loop-k
invariant-loop-k l = record {
  all : l.turns.items ++ turns_from l.short l.long (drop l.k (turn_order l.table)) ≡ turns_of l.table;
  short : l.short ≤ 1024 + 200000 * l.k;
  long : l.long ≤ 1024 + 200000 * l.k;
}
