use Rattle.bus_tool.proofs.CableLemmas.{table_none, wired_stopped, both_taken}
use Rattle.bus_tool.proofs.inputs.take_on_cable.Goals as goal

pub returns-in_err-table-clause-prepares : goal.returns-in_err-table-clause-prepares
returns-in_err-table-clause-prepares g c = table_none _ _ _ c.in_err-table.field-0.0 c.from_residual.result c.from_residual.ensures.1 c.in_err-table.ensures

pub returns-in_err-cable-clause-prepares : goal.returns-in_err-cable-clause-prepares
returns-in_err-cable-clause-prepares g c = wired_stopped _ _ _ _ c.in_ok-table.table c.in_err-cable.field-0.0 c.from_residual-in_err-cable.result c.from_residual-in_err-cable.ensures.1 c.in_ok-table.ensures c.in_err-cable.ensures.takes

pub returns-clause-prepares : goal.returns-clause-prepares
returns-clause-prepares g c = both_taken _ _ _ _ c.in_ok-table.table c.in_ok-cable.field-0 c.in_ok-table.ensures c.in_ok-cable.ensures.takes
