use Rattle.bus_strings.proofs.ClearLaws.{unmarked}
use Rattle.bus_strings.proofs.OverlapLemmas.{overlaps_meet, neighbours_tell, ascending_is_by_moment}
use Rattle.bus_strings.proofs.laws.neighbours_tell.Goals as goal

pub returns : goal.returns
returns c = record {
  meet = overlaps_meet;
  neighbours = neighbours_tell;
  ascending = ascending_is_by_moment;
  clear = unmarked;
}
