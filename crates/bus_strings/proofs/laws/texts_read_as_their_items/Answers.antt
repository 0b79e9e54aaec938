use Rattle.std.specs.Prelude.{Ok}
use Rattle.bus_strings.proofs.GrammarLemmas.{is_few, is_found, messages_again}
use Rattle.bus_strings.proofs.laws.texts_read_as_their_items.Goals as goal

pub returns-clause-again : goal.returns-clause-again
returns-clause-again c = λ text items h. messages_again items text h

pub returns-clause-found : goal.returns-clause-found
returns-clause-found c = λ text items h. is_found text (Ok items) h

pub returns-clause-few : goal.returns-clause-few
returns-clause-few c = λ text items h. is_few text (Ok items) h
