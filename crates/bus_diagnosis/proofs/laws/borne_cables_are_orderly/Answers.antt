use Rattle.bus_diagnosis.proofs.LawLemmas as laws
use Rattle.bus_diagnosis.proofs.laws.borne_cables_are_orderly.Goals as goal

pub returns : goal.returns
returns c = laws.borne_cables_are_orderly c.borne_is_orderly.ensures.aperiodic c.borne_is_orderly.ensures.periodic
