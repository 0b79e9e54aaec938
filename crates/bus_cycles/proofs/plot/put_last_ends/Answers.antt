use Rattle.std.proofs.Common.{arith}
use Rattle.std.proofs.lemmas.Bool.{ne_eqb}
use Rattle.std.proofs.lemmas.Grind.{common_steps}
use Rattle.bus_cycles.proofs.plot.put_last_ends.Goals as goal

pub returns-then-survey-eq0-2 : goal.returns-then-survey-eq0-2
returns-then-survey-eq0-2 g c =
    rw (ne_eqb c.args.survey.now.count 0 c.if-survey-eq0.false, c.if-survey-eq0-2.true) c.put.ensures

pub returns-then-survey-eq0 : goal.returns-then-survey-eq0
returns-then-survey-eq0 g c = grind (arith, common_steps)

pub returns-else-survey-eq0-2 : goal.returns-else-survey-eq0-2
returns-else-survey-eq0-2 g c = grind (arith, common_steps)
