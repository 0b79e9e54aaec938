use Rattle.bus_table.proofs.AnswerLemmas.{answer_again}
use Rattle.bus_table.proofs.laws.text_reads_as_its_table.Goals as goal

pub returns : goal.returns
returns c = answer_again
