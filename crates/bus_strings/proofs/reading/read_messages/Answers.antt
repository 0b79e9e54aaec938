use Rattle.std.proofs.Common.{subst}
use Rattle.bus_text.specs.Gives.{Gives}
use Rattle.bus_strings.proofs.GrammarLemmas.{is_found, is_few, messages_again}
use Rattle.bus_strings.proofs.reading.read_messages.Goals as goal

pub returns-clause-found : goal.returns-clause-found
returns-clause-found c = is_found c.args.text.now c.read.result c.read.ensures

pub returns-clause-only : goal.returns-clause-only
returns-clause-only c = λ items h. subst (λ f. Gives (λ v. v) c.read.result f) (messages_again items c.args.text.now h) c.read.ensures

pub returns-clause-few : goal.returns-clause-few
returns-clause-few c = is_few c.args.text.now c.read.result c.read.ensures
