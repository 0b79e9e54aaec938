use Rattle.std.proofs.Common.{◌≡◌, map, drop}
use Rattle.bus_cable.specs.Cables.{place_on}
use Rattle.bus_table.specs.Tables.{Listener}
use Rattle.bus_diagnosis.specs.Reaches.{pair_of, farthest}
use Rattle.bus_diagnosis.proofs.reach.with_listeners.Given as goal

abbrev pub invariant-loop-listener : goal.invariant-loop-listener
invariant-loop-listener l =
    farthest l.found (map (λ (other : Listener). pair_of (place_on l.cable) l.sender other.number) (drop l.listener-index l.listeners))
    ≡ farthest l.fn.found (map (λ (other : Listener). pair_of (place_on l.cable) l.sender other.number) l.listeners)
