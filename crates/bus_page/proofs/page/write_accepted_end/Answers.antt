use Rattle.std.proofs.Common.{◌++◌}
use Rattle.bus_outer.proofs.WriteLaws.{writes_then}
use Rattle.bus_page.specs.Feet.{foot_text}
use Rattle.bus_page.specs.Pages.{asked_text}
use Rattle.bus_explain.proofs.CutLemmas.{text_cut}
use Rattle.bus_page.proofs.page.write_accepted_end.Goals as goal

pub returns : goal.returns
returns g c =
    writes_then g.K.Sink.held g.K.Sink.faults c.args.sink.now c.write_asked.new.sink c.write_foot.new.sink c.in_ok-write_asked.field-0 c.write_foot.result
    (asked_text c.args.asked.now c.args.table.now) (foot_text c.args.program.now c.args.bytes.now) c.in_ok-write_asked.ensures c.write_foot.ensures

pub returns-in_err-write_asked : goal.returns-in_err-write_asked
returns-in_err-write_asked g c =
    text_cut g.K.Sink c.args.sink.now c.write_asked.new.sink c.in_err-write_asked.field-0.0 c.from_residual.result
    (asked_text c.args.asked.now c.args.table.now) (foot_text c.args.program.now c.args.bytes.now) c.in_err-write_asked.ensures c.from_residual.ensures.1
