use Rattle.std.proofs.Common.{sym, subst}
use Rattle.bus_strings.specs.Transmissions.{IsByMoment, IsClear}
use Rattle.bus_tool.proofs.RunLemmas.{run_written, run_cut}
use Rattle.bus_tool.proofs.TraceLemmas.{trace_by_moment}
use Rattle.bus_tool.proofs.run.write_run.Goals as goal

pub write_clear_received-requires-clause-order : goal.write_clear_received-requires-clause-order
write_clear_received-requires-clause-order g c = subst IsByMoment (sym c.list.ensures.value) (trace_by_moment c.args.trace.now c.requires.trace)

pub write_clear_received-requires-clause-clear : goal.write_clear_received-requires-clause-clear
write_clear_received-requires-clause-clear g c = subst IsClear (sym c.list.ensures.value) c.requires.clear

pub returns : goal.returns
returns g c =
    run_written g.K.Sink c.args.out.now c.write_clear_trace.new.sink c.write_clear_received.new.sink c.in_ok-write_clear_trace.field-0
    c.write_clear_received.result c.args.table.now c.args.trace.now c.list.result.now c.list.ensures.value c.in_ok-write_clear_trace.ensures
    c.write_clear_received.ensures

pub returns-in_err-write_clear_trace : goal.returns-in_err-write_clear_trace
returns-in_err-write_clear_trace g c =
    run_cut g.K.Sink c.args.out.now c.write_clear_trace.new.sink c.in_err-write_clear_trace.field-0.0 c.from_residual.result c.args.table.now
    c.args.trace.now c.in_err-write_clear_trace.ensures c.from_residual.ensures.1
