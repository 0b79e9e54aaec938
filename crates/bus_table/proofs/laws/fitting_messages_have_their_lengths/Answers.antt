use Rattle.bus_table.proofs.FitLaws.{fitting_length}
use Rattle.bus_table.proofs.laws.fitting_messages_have_their_lengths.Goals as goal

pub returns-clause-least : goal.returns-clause-least
returns-clause-least c = λ sender message h. (fitting_length sender message h).0

pub returns-clause-most : goal.returns-clause-most
returns-clause-most c = λ sender message h. (fitting_length sender message h).1
