use Rattle.std.proofs.Common.{◌≡◌, ◌≤◌, ◌++◌, map, drop}
use Rattle.serde_json.specs.View.{view}
use Rattle.bus_table.specs.Turns.{turn_order}
use Rattle.bus_facts.specs.Senders.{turn_values}
use Rattle.bus_facts.proofs.senders.turn_values.Given as goal

-- with those of the senders to come these are all
abbrev pub invariant-loop-k : goal.invariant-loop-k
invariant-loop-k l = record {
  all : map view l.values.items ++ turn_values l.table l.pace l.before (drop l.k (turn_order l.table))
      ≡ turn_values l.table l.pace l.table.sg (turn_order l.table);
  short : l.before ≤ 1024;
}
