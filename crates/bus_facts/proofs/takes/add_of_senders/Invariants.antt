use Rattle.std.proofs.Common.{◌≡◌, ◌++◌, map, take}
use Rattle.std.specs.List.{flat_map}
use Rattle.bus_table.specs.Tables.{Sender}
use Rattle.bus_filter.specs.Received.{sender_taker}
use Rattle.bus_facts.specs.Takes.{taker_values}
use Rattle.serde_json.specs.View.{view}
use Rattle.bus_facts.proofs.takes.add_of_senders.Given as goal

-- those so far
abbrev pub invariant-loop-sender : goal.invariant-loop-sender
invariant-loop-sender l = map view l.values.items ≡ map view l.fn.values.items ++ flat_map (λ (sender : Sender). taker_values l.table (sender_taker sender)) (take l.sender-index l.senders)
