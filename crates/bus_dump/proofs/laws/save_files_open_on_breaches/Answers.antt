use Rattle.bus_dump.proofs.OpenLemmas as lemmas
use Rattle.bus_dump.proofs.laws.save_files_open_on_breaches.Goals as goal

pub returns-clause-breach : goal.returns-clause-breach
returns-clause-breach c = lemmas.breach_is_open

pub returns-clause-before : goal.returns-clause-before
returns-clause-before c = lemmas.breach_is_first

pub returns-clause-first : goal.returns-clause-first
returns-clause-first c = lemmas.first_are_open

pub returns-clause-few : goal.returns-clause-few
returns-clause-few c = lemmas.few_are_open
