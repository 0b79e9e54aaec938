use Rattle.std.proofs.Common.{sym, subst}
use Rattle.bus_strings.specs.Transmissions.{IsAscending}
use Rattle.bus_tool.proofs.CableLemmas.{cable_written, cable_cut}
use Rattle.bus_tool.proofs.on_cable.write_on_cable.Goals as goal

pub returns : goal.returns
returns g c = cable_written g.K.Sink c.args.out.now c.write_trace.new.sink c.write_heard.new.sink c.in_ok-write_trace.field-0 c.write_heard.result c.args.table.now c.args.cable.now c.args.trace.now c.list.result.now c.list.ensures.value c.in_ok-write_trace.ensures c.write_heard.ensures

pub write_heard-requires : goal.write_heard-requires
write_heard-requires g c = subst IsAscending (sym c.list.ensures.value) c.requires.order

pub returns-in_err-write_trace : goal.returns-in_err-write_trace
returns-in_err-write_trace g c = cable_cut g.K.Sink c.args.out.now c.write_trace.new.sink c.in_err-write_trace.field-0.0 c.from_residual.result c.args.table.now c.args.cable.now c.args.trace.now c.in_err-write_trace.ensures c.from_residual.ensures.1
