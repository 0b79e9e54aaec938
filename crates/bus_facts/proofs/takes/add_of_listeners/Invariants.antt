use Rattle.std.proofs.Common.{◌≡◌, ◌++◌, map, take}
use Rattle.std.specs.List.{flat_map}
use Rattle.bus_table.specs.Tables.{Listener}
use Rattle.bus_filter.specs.Received.{listener_taker}
use Rattle.bus_facts.specs.Takes.{taker_values}
use Rattle.serde_json.specs.View.{view}
use Rattle.bus_facts.proofs.takes.add_of_listeners.Given as goal

-- those so far
abbrev pub invariant-loop-listener : goal.invariant-loop-listener
invariant-loop-listener l = map view l.values.items ≡ map view l.fn.values.items ++ flat_map (λ (listener : Listener). taker_values l.table (listener_taker listener)) (take l.listener-index l.listeners)
