use Rattle.std.proofs.Common.{◌≡◌, ◌+◌}
use Rattle.bus_medium.specs.inside.Places.{place_of, IsPlace}
use Rattle.bus_medium.proofs.place.Place.far.Given as goal

abbrev pub invariant-loop-rest : goal.invariant-loop-rest
invariant-loop-rest l = IsPlace l.message l.place × (place_of l.message l.place + l.rest ≡ place_of l.message l.fn.self + l.bits)

abbrev pub decreases-loop-rest : goal.decreases-loop-rest
decreases-loop-rest l = l.rest
