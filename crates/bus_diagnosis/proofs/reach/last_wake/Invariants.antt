use Rattle.std.proofs.Common.{◌≡◌, max, drop}
use Rattle.bus_cable.specs.Cables.{wakes_on}
use Rattle.bus_diagnosis.specs.Reaches.{last_wake}
use Rattle.bus_diagnosis.proofs.reach.last_wake.Given as goal

abbrev pub invariant-loop-sender : goal.invariant-loop-sender
invariant-loop-sender l = max l.last (last_wake (wakes_on l.cable) (drop l.sender-index l.senders)) ≡ last_wake (wakes_on l.cable) l.senders
