use Rattle.std.proofs.Common.{◌≡◌, drop}
use Rattle.std.specs.List.{flat_map}
use Rattle.bus_cable.specs.Cables.{place_on}
use Rattle.bus_diagnosis.specs.Reaches.{pairs_with, farthest, farthest_pair}
use Rattle.bus_diagnosis.proofs.reach.farthest_pair.Given as goal

abbrev pub invariant-loop-sender : goal.invariant-loop-sender
invariant-loop-sender l =
    farthest l.found (flat_map (pairs_with l.table (place_on l.cable)) (drop l.sender-index l.table.senders)) ≡ farthest_pair l.table (place_on l.cable)
