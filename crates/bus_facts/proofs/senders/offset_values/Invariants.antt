use Rattle.std.proofs.Common.{◌≡◌, map, take}
use Rattle.serde_json.specs.View.{view}
use Rattle.bus_regime.specs.Gaps.{gaps}
use Rattle.bus_facts.specs.Senders.{offset_value}
use Rattle.bus_facts.proofs.senders.offset_values.Given as goal

-- those so far
abbrev pub invariant-loop-k : goal.invariant-loop-k
invariant-loop-k l = map view l.values.items ≡ map (offset_value l.table l.pace) (take l.k (gaps l.table))
