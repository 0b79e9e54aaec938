use Rattle.std.proofs.Common.{◌++◌}
use Rattle.bus_outer.proofs.WriteLaws.{writes_then}
use Rattle.bus_explain.specs.Wholes.{whole_text}
use Rattle.bus_page.specs.Feet.{foot_text}
use Rattle.bus_page.specs.Pages.{bare_front}
use Rattle.bus_explain.proofs.CutLemmas.{text_cut}
use Rattle.bus_page.proofs.bare.write_whole_page.Goals as goal

pub returns : goal.returns
returns g c =
    writes_then g.K.Sink.held g.K.Sink.faults c.args.sink.now c.write_bare_front.new.sink c.write_whole_end.new.sink c.in_ok-write_bare_front.field-0 c.write_whole_end.result
    (bare_front) (whole_text c.args.reason ++ foot_text c.args.program.now c.args.bytes.now) c.in_ok-write_bare_front.ensures c.write_whole_end.ensures

pub returns-in_err-write_bare_front : goal.returns-in_err-write_bare_front
returns-in_err-write_bare_front g c =
    text_cut g.K.Sink c.args.sink.now c.write_bare_front.new.sink c.in_err-write_bare_front.field-0.0 c.from_residual.result
    (bare_front) (whole_text c.args.reason ++ foot_text c.args.program.now c.args.bytes.now) c.in_err-write_bare_front.ensures c.from_residual.ensures.1
