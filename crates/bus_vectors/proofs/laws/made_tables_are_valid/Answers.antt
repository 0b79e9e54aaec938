use Rattle.bus_vectors.proofs.TableLemmas.{made_tables_are_valid}
use Rattle.bus_vectors.proofs.laws.made_tables_are_valid.Goals as goal

pub returns : goal.returns
returns c = made_tables_are_valid
