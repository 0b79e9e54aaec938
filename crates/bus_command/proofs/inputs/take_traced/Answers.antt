use Rattle.bus_command.proofs.TracedLemmas.{trace_stage, table_none, trace_none, both_taken}
use Rattle.bus_command.specs.Due.{any_trace}
use Rattle.bus_command.specs.Readers.{Trace}
use Rattle.bus_command.proofs.inputs.take_traced.Goals as goal

pub returns-in_err-table-clause-prepares : goal.returns-in_err-table-clause-prepares
returns-in_err-table-clause-prepares g c = table_none Trace any_trace (trace_stage g.row.R.Denot) _ _ _ c.in_err-table.field-0.0 c.from_residual.result c.from_residual.ensures.1 c.in_err-table.ensures

pub returns-in_err-trace-clause-prepares : goal.returns-in_err-trace-clause-prepares
returns-in_err-trace-clause-prepares g c = trace_none Trace any_trace (trace_stage g.row.R.Denot) _ _ _ _ c.in_ok-table.table c.in_err-trace.field-0.0 c.from_residual-in_err-trace.result c.from_residual-in_err-trace.ensures.1 c.in_ok-table.ensures c.in_err-trace.ensures.takes

pub returns-clause-prepares : goal.returns-clause-prepares
returns-clause-prepares g c = both_taken Trace any_trace (trace_stage g.row.R.Denot) _ _ _ _ c.in_ok-table.table c.in_ok-trace.trace c.in_ok-table.ensures c.in_ok-trace.ensures.takes
