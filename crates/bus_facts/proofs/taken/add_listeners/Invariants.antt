use Rattle.std.proofs.Common.{◌≡◌, ◌++◌, map, take}
use Rattle.std.specs.List.{filter}
use Rattle.bus_table.specs.Tables.{Listener}
use Rattle.bus_feeds.specs.Feeds.{listener_takes}
use Rattle.bus_facts.specs.Values.{count}
use Rattle.serde_json.specs.View.{view}
use Rattle.bus_facts.proofs.taken.add_listeners.Given as goal

-- those so far
abbrev pub invariant-loop-listener : goal.invariant-loop-listener
invariant-loop-listener l = map view l.values.items ≡ map view l.fn.values.items ++ map (λ (listener : Listener). count listener.number) (filter (listener_takes l.number l.send) (take l.listener-index l.listeners))
