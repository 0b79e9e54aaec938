use Rattle.std.proofs.Common.{arith}
use Rattle.bus_table.proofs.ValidLaws.{valid_facts}
use Rattle.std.proofs.lemmas.Grind.{common_steps}
use Rattle.bus_page.proofs.slot.begin_of.Goals as goal

pub turn_at-requires-clause-place : goal.turn_at-requires-clause-place
turn_at-requires-clause-place c = (valid_facts c.args.table.now c.table_is_valid.ensures).some

pub returns-clause-value : goal.returns-clause-value
returns-clause-value c = grind (arith, common_steps)

pub returns-clause-bound : goal.returns-clause-bound
returns-clause-bound c = grind (arith, common_steps)
