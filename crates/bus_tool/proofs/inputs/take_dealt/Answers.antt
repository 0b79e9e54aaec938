use Rattle.bus_command.proofs.InputLemmas.{none_made, hands_refused, all_made}
use Rattle.bus_tool.specs.Due.{table_for}
use Rattle.bus_tool.proofs.inputs.take_dealt.Goals as goal

pub returns-in_err-table-clause-prepares : goal.returns-in_err-table-clause-prepares
returns-in_err-table-clause-prepares g c = none_made (table_for c.args.mode) _ _ _ c.in_err-table.field-0.0 c.from_residual.result c.from_residual.ensures.1 c.in_err-table.ensures.takes

pub returns-in_err-hands-clause-prepares : goal.returns-in_err-hands-clause-prepares
returns-in_err-hands-clause-prepares g c = hands_refused (table_for c.args.mode) _ _ _ _ c.in_ok-table.table c.in_err-hands.field-0.0 c.from_residual-in_err-hands.result c.from_residual-in_err-hands.ensures.1 c.in_ok-table.ensures.takes c.in_err-hands.ensures.takes

pub returns-clause-prepares : goal.returns-clause-prepares
returns-clause-prepares g c = all_made (table_for c.args.mode) _ _ _ _ c.in_ok-table.table c.in_ok-hands.hands c.in_ok-table.ensures.takes c.in_ok-hands.ensures.takes
