use Rattle.std.proofs.Common.{◌++◌}
use Rattle.bus_outer.proofs.WriteLaws.{writes_then}
use Rattle.bus_page.specs.Feet.{foot_text}
use Rattle.bus_page.specs.Pages.{accepted_front, accepted_sentences, asked_text}
use Rattle.bus_explain.proofs.CutLemmas.{text_cut}
use Rattle.bus_page.proofs.page.write_accepted_page.Goals as goal

pub returns : goal.returns
returns g c =
    writes_then g.K.Sink.held g.K.Sink.faults c.args.sink.now c.write_accepted_front.new.sink c.write_accepted_rest.new.sink c.in_ok-write_accepted_front.field-0 c.write_accepted_rest.result
    (accepted_front c.args.asked.now c.args.table.now c.args.figures.now.least c.args.figures.now.most) (accepted_sentences c.args.table.now c.args.figures.now.least c.args.figures.now.most ++ (asked_text c.args.asked.now c.args.table.now ++ foot_text c.args.program.now c.args.bytes.now)) c.in_ok-write_accepted_front.ensures c.write_accepted_rest.ensures

pub returns-in_err-write_accepted_front : goal.returns-in_err-write_accepted_front
returns-in_err-write_accepted_front g c =
    text_cut g.K.Sink c.args.sink.now c.write_accepted_front.new.sink c.in_err-write_accepted_front.field-0.0 c.from_residual.result
    (accepted_front c.args.asked.now c.args.table.now c.args.figures.now.least c.args.figures.now.most) (accepted_sentences c.args.table.now c.args.figures.now.least c.args.figures.now.most ++ (asked_text c.args.asked.now c.args.table.now ++ foot_text c.args.program.now c.args.bytes.now)) c.in_err-write_accepted_front.ensures c.from_residual.ensures.1
