use Rattle.bus_dump.proofs.GarbleLemmas.{overlaps_garble}
use Rattle.bus_dump.proofs.laws.overlaps_garble.Goals as goal

pub returns : goal.returns
returns c = overlaps_garble c.neighbours_tell.ensures.meet
