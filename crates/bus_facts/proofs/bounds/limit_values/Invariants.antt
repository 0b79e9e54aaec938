use Rattle.std.proofs.Common.{◌≡◌, map, take}
use Rattle.serde_json.specs.View.{view}
use Rattle.bus_facts.specs.Bounds.{limit_value}
use Rattle.bus_facts.proofs.bounds.limit_values.Given as goal

-- those so far
abbrev pub invariant-loop-limit : goal.invariant-loop-limit
invariant-loop-limit l = map view l.values.items ≡ map (limit_value l.tolerance) (take l.limit-index l.limits)
