use Rattle.std.proofs.Common.{◌≡◌, map, drop}
use Rattle.bus_cable.specs.Cables.{place_on}
use Rattle.bus_table.specs.Tables.{Sender}
use Rattle.bus_diagnosis.specs.Reaches.{pair_of, farthest}
use Rattle.bus_diagnosis.proofs.reach.with_senders.Given as goal

abbrev pub invariant-loop-other : goal.invariant-loop-other
invariant-loop-other l =
    farthest l.found (map (λ (other : Sender). pair_of (place_on l.cable) l.sender other.number) (drop l.other-index l.others))
    ≡ farthest l.fn.found (map (λ (other : Sender). pair_of (place_on l.cable) l.sender other.number) l.others)
