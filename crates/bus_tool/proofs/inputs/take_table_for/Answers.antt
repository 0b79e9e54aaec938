use Rattle.bus_tool.proofs.ModeLemmas.{no_table_for, table_in_mode, is_of_mode}
use Rattle.bus_tool.proofs.inputs.take_table_for.Goals as goal

pub returns-in_err-table-clause-takes : goal.returns-in_err-table-clause-takes
returns-in_err-table-clause-takes g c = no_table_for c.args.mode _ _ c.in_err-table.field-0.0 c.from_residual.result c.from_residual.ensures.1 c.in_err-table.ensures

pub returns-clause-takes : goal.returns-clause-takes
returns-clause-takes g c = table_in_mode c.args.mode _ _ c.in_ok-table.table c.in_mode.result c.in_mode.ensures c.in_ok-table.ensures

pub returns-clause-mode : goal.returns-clause-mode
returns-clause-mode g c = is_of_mode c.args.mode c.in_ok-table.table c.in_mode.result c.in_mode.ensures
