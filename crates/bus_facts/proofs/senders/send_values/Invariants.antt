use Rattle.std.proofs.Common.{◌≡◌, ◌++◌, map, drop}
use Rattle.serde_json.specs.View.{view}
use Rattle.bus_facts.specs.Senders.{send_values}
use Rattle.bus_facts.proofs.senders.send_values.Given as goal

-- with those of the lines to come these are all
abbrev pub invariant-loop-place : goal.invariant-loop-place
invariant-loop-place l =
    map view l.values.items ++ send_values l.table l.pace l.sender l.place (drop l.place l.sender.sends)
    ≡ send_values l.table l.pace l.sender 0 l.sender.sends
