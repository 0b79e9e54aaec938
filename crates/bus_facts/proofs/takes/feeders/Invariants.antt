use Rattle.std.proofs.Common.{◌≡◌, ◌++◌, map, take}
use Rattle.std.specs.List.{flat_map}
use Rattle.bus_facts.specs.Takes.{feeder_values}
use Rattle.serde_json.specs.View.{view}
use Rattle.bus_facts.proofs.takes.feeders.Given as goal

-- those so far
abbrev pub invariant-loop-sender : goal.invariant-loop-sender
invariant-loop-sender l = map view l.values.items ≡ flat_map (feeder_values l.number l.take) (take l.sender-index l.senders)
