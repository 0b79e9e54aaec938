use Rattle.bus_command.proofs.InputLemmas.{table_refused, table_taken}
use Rattle.bus_command.proofs.inputs.take_table.Goals as goal

pub returns-in_err-table : goal.returns-in_err-table
returns-in_err-table g c = table_refused _ _ c.in_ok-text.text c.deref.result.now c.in_err-table.field-0.0 c.from_residual-in_err-table.result c.in_ok-text.ensures.takes c.deref.ensures.value c.in_err-table.ensures.exact c.from_residual-in_err-table.ensures.1

pub returns : goal.returns
returns g c = table_taken _ _ c.in_ok-text.text c.deref.result.now c.in_ok-table.table c.in_ok-text.ensures.takes c.deref.ensures.value c.in_ok-table.ensures.exact
