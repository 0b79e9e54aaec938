use Rattle.bus_picture.proofs.FaultLawLemmas as lemmas
use Rattle.bus_picture.proofs.laws.faults_are_marked.Goals as goal

pub returns : goal.returns
returns c = record {
  marked = lemmas.faults_are_marked;
  lanes = lemmas.faults_have_lanes c.lanes_are_terminals.ensures;
  none = lemmas.none_is_marked;
}
