use Rattle.std.proofs.Common.{subst, ap}
use Rattle.bus_table.specs.Gives.{Answers}
use Rattle.bus_table.specs.Reading.{answered}
use Rattle.bus_table.proofs.AnswerLemmas.{refused_answer}
use Rattle.bus_table.proofs.TextLemmas.{answer_found}
use Rattle.bus_table.proofs.AgainLemmas.{text_again}
use Rattle.bus_table.proofs.reading.read_table.Goals as goal

pub returns-clause-found : goal.returns-clause-found
returns-clause-found c = answer_found c.args.text.now c.read.result c.read.ensures

pub returns-clause-only : goal.returns-clause-only
returns-clause-only c = λ table h. subst (λ due. Answers c.read.result due) (ap answered (text_again c.args.text.now table h)) c.read.ensures

pub returns-clause-cause : goal.returns-clause-cause
returns-clause-cause c = refused_answer c.args.text.now c.read.result c.read.ensures
