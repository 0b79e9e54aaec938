use Rattle.std.proofs.Common.{◌++◌}
use Rattle.bus_outer.proofs.WriteLaws.{writes_then}
use Rattle.bus_explain.specs.Wholes.{whole_text}
use Rattle.bus_page.specs.Feet.{foot_text}
use Rattle.bus_explain.proofs.CutLemmas.{text_cut}
use Rattle.bus_page.proofs.bare.write_whole_end.Goals as goal

pub returns : goal.returns
returns g c =
    writes_then g.K.Sink.held g.K.Sink.faults c.args.sink.now c.write_whole.new.sink c.write_foot.new.sink c.in_ok-write_whole.field-0 c.write_foot.result
    (whole_text c.args.reason) (foot_text c.args.program.now c.args.bytes.now) c.in_ok-write_whole.ensures c.write_foot.ensures

pub returns-in_err-write_whole : goal.returns-in_err-write_whole
returns-in_err-write_whole g c =
    text_cut g.K.Sink c.args.sink.now c.write_whole.new.sink c.in_err-write_whole.field-0.0 c.from_residual.result
    (whole_text c.args.reason) (foot_text c.args.program.now c.args.bytes.now) c.in_err-write_whole.ensures c.from_residual.ensures.1
