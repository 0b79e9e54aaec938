use Rattle.std.proofs.Common.{◌≡◌, ◌++◌, map, take}
use Rattle.std.specs.List.{filter}
use Rattle.bus_table.specs.declared.line.SendLine.{SendLine}
use Rattle.bus_feeds.specs.Feeds.{feeds}
use Rattle.bus_facts.specs.Takes.{feed_value}
use Rattle.serde_json.specs.View.{view}
use Rattle.bus_facts.proofs.takes.add_feeds.Given as goal

-- those so far
abbrev pub invariant-loop-send : goal.invariant-loop-send
invariant-loop-send l = map view l.values.items ≡ map view l.fn.values.items ++ map (feed_value l.other l.take) (filter (λ (send : SendLine). feeds send l.take) (take l.send-index l.sends))
