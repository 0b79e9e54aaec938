use Rattle.bus_tool.proofs.DiagnoseLemmas.{first_none, second_none, both_taken}
use Rattle.bus_tool.proofs.beside.take_texts.Goals as goal

pub returns-in_err-table-clause-prepares : goal.returns-in_err-table-clause-prepares
returns-in_err-table-clause-prepares g c =
    first_none _ _ _ c.in_err-table.field-0.0 c.from_residual.result c.from_residual.ensures.1 c.in_err-table.ensures.takes

pub returns-in_err-text-clause-prepares : goal.returns-in_err-text-clause-prepares
returns-in_err-text-clause-prepares g c =
    second_none _ _ _ _ c.in_ok-table.table c.in_err-text.field-0.0 c.from_residual-in_err-text.result c.from_residual-in_err-text.ensures.1
    c.in_ok-table.ensures.takes c.in_err-text.ensures.takes

pub returns-clause-prepares : goal.returns-clause-prepares
returns-clause-prepares g c = both_taken _ _ _ _ c.in_ok-table.table c.in_ok-text.text c.in_ok-table.ensures.takes c.in_ok-text.ensures.takes
