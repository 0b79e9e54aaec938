use Rattle.bus_table.proofs.AnswerLemmas.{found_reading, refused_reading}
use Rattle.bus_table.proofs.laws.readings_have_their_cause.Goals as goal

pub returns-clause-found : goal.returns-clause-found
returns-clause-found c = found_reading

pub returns-clause-refused : goal.returns-clause-refused
returns-clause-refused c = refused_reading
