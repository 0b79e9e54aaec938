use Rattle.bus_dump.proofs.OpenLemmas as lemmas
use Rattle.bus_dump.proofs.laws.save_files_open_on_all.Goals as goal

pub returns : goal.returns
returns c = lemmas.opens_on_all
