use Rattle.bus_dump.proofs.OpenLemmas as lemmas
use Rattle.bus_dump.proofs.laws.all_are_shown.Goals as goal

pub returns : goal.returns
returns c = lemmas.all_are_shown
