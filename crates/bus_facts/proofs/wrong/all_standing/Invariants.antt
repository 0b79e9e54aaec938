use Rattle.std.proofs.Common.{◌≡◌, map, take}
use Rattle.std.specs.List.{filter}
use Rattle.serde_json.specs.View.{view}
use Rattle.bus_table.specs.Stops.{may_stand}
use Rattle.bus_facts.specs.Wrong.{keyword_value}
use Rattle.bus_facts.proofs.wrong.all_standing.Given as goal

-- those so far
abbrev pub invariant-loop-keyword : goal.invariant-loop-keyword
invariant-loop-keyword l = map view l.values.items ≡ map keyword_value (filter (may_stand l.stop) (take l.keyword-index l.keyword-items))
