use Rattle.std.proofs.Common.{Err, sym, ap, subst}
use Rattle.bus_command.specs.Readers.{Entire}
use Rattle.bus_command.specs.Steps.{IsText, Takes}
use Rattle.bus_command.specs.Due.{text_within}
use Rattle.bus_command.proofs.TextLemmas.{text_taken, text_refused}
use Rattle.bus_command.proofs.inputs.take_text.Goals as goal

pub returns-in-Ok-clause-takes : goal.returns-in-Ok-clause-takes
returns-in-Ok-clause-takes g c = text_taken c.args.limit c.args.number _ _ c.in-Ok.text c.in-Ok.ensures.whole c.in-Ok.ensures.taken c.in-Ok.ensures.counts

pub returns-in-Err-clause-takes : goal.returns-in-Err-clause-takes
returns-in-Err-clause-takes g c =
    subst (Takes IsText c.args.number (Entire c.args.limit) (text_within c.args.limit c.args.number) _ _) (ap Err (sym c.read_outcome.ensures))
    (text_refused c.args.limit c.args.number _ _ c.in-Err.error c.requires.number.0 c.requires.number.1 c.in-Err.ensures.taken c.in-Err.ensures.counts)
