use Rattle.std.proofs.Common.{◌≡◌, ◌++◌, map, take}
use Rattle.std.specs.List.{filter}
use Rattle.bus_table.specs.Tables.{Sender}
use Rattle.bus_feeds.specs.Feeds.{sender_takes}
use Rattle.bus_facts.specs.Values.{count}
use Rattle.serde_json.specs.View.{view}
use Rattle.bus_facts.proofs.taken.add_senders.Given as goal

-- those so far
abbrev pub invariant-loop-sender : goal.invariant-loop-sender
invariant-loop-sender l = map view l.values.items ≡ map view l.fn.values.items ++ map (λ (sender : Sender). count sender.number) (filter (sender_takes l.number l.send) (take l.sender-index l.senders))
