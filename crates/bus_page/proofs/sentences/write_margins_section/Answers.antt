use Rattle.std.proofs.Common.{◌++◌}
use Rattle.bus_outer.proofs.WriteLaws.{writes_then}
use Rattle.bus_page.specs.Pages.{asked_front, margins_text}
use Rattle.bus_explain.proofs.CutLemmas.{text_cut}
use Rattle.bus_page.proofs.sentences.write_margins_section.Goals as goal

pub returns : goal.returns
returns g c =
    writes_then g.K.Sink.held g.K.Sink.faults c.args.sink.now c.write_asked_front.new.sink c.write_margins.new.sink c.in_ok-write_asked_front.field-0 c.write_margins.result
    (asked_front c.args.bounds) (margins_text c.args.table.now.mode c.args.bounds c.args.table.now) c.in_ok-write_asked_front.ensures c.write_margins.ensures

pub returns-in_err-write_asked_front : goal.returns-in_err-write_asked_front
returns-in_err-write_asked_front g c =
    text_cut g.K.Sink c.args.sink.now c.write_asked_front.new.sink c.in_err-write_asked_front.field-0.0 c.from_residual.result
    (asked_front c.args.bounds) (margins_text c.args.table.now.mode c.args.bounds c.args.table.now) c.in_err-write_asked_front.ensures c.from_residual.ensures.1
