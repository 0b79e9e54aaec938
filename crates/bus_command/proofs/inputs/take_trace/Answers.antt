use Rattle.bus_command.proofs.TracedLemmas.{trace_taken, trace_fails}
use Rattle.bus_command.proofs.inputs.take_trace.Goals as goal

pub returns-in_err-trace-clause-takes : goal.returns-in_err-trace-clause-takes
returns-in_err-trace-clause-takes g c = trace_fails _ _ c.in_err-trace.field-0.0 c.from_residual.result c.in_err-trace.ensures.taken c.in_err-trace.ensures.exact c.in_err-trace.ensures.counts c.from_residual.ensures.1

pub returns-clause-takes : goal.returns-clause-takes
returns-clause-takes g c = trace_taken c.traces_read_back.ensures.back _ _ c.in_ok-trace.trace c.in_ok-trace.ensures.ranges c.in_ok-trace.ensures.taken c.in_ok-trace.ensures.exact c.in_ok-trace.ensures.counts
