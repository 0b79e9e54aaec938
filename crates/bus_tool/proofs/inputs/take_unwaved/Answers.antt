use Rattle.bus_command.proofs.TracedLemmas.{table_none, trace_none, both_taken}
use Rattle.bus_tool.specs.Due.{wave_trace_due}
use Rattle.bus_tool.specs.Forms.{entire_wave}
use Rattle.bus_tool.proofs.WaveLemmas.{wave_stage}
use Rattle.bus_tool.proofs.inputs.take_unwaved.Goals as goal

pub returns-in_err-table : goal.returns-in_err-table
returns-in_err-table g c = table_none entire_wave wave_trace_due wave_stage _ _ _ c.in_err-table.field-0.0 c.from_residual.result c.from_residual.ensures.1 c.in_err-table.ensures

pub returns-in_err-trace : goal.returns-in_err-trace
returns-in_err-trace g c = trace_none entire_wave wave_trace_due wave_stage _ _ _ _ c.in_ok-table.table c.in_err-trace.field-0.0 c.from_residual-in_err-trace.result c.from_residual-in_err-trace.ensures.1 c.in_ok-table.ensures c.in_err-trace.ensures

pub returns : goal.returns
returns g c = both_taken entire_wave wave_trace_due wave_stage _ _ _ _ c.in_ok-table.table c.in_ok-trace.trace c.in_ok-table.ensures c.in_ok-trace.ensures
