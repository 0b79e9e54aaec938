use Rattle.std.proofs.Common.{◌≡◌, ◌++◌, map, take}
use Rattle.bus_facts.specs.Takes.{take_value}
use Rattle.serde_json.specs.View.{view}
use Rattle.bus_facts.proofs.takes.add_takes.Given as goal

-- those so far
abbrev pub invariant-loop-take : goal.invariant-loop-take
invariant-loop-take l = map view l.values.items ≡ map view l.fn.values.items ++ map (take_value l.table l.number) (take l.take-index l.takes)
