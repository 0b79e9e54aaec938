use Rattle.std.proofs.Common.{◌≡◌, map, take}
use Rattle.serde_json.specs.View.{view}
use Rattle.bus_table.specs.Turns.{turn_order}
use Rattle.bus_tool.specs.inside.ReportData.{sender_data}
use Rattle.bus_tool.proofs.report.sender_values.Given as goal

abbrev pub invariant-loop-k : goal.invariant-loop-k
invariant-loop-k l = map view l.values.items ≡ map sender_data (take l.k (turn_order l.table))
