use Rattle.bus_outer.proofs.WriteLaws.{writes_then}
use Rattle.bus_page.specs.Pages.{refused_end, refused_front}
use Rattle.bus_explain.proofs.CutLemmas.{text_cut}
use Rattle.bus_page.proofs.refused.write_refused_page.Goals as goal

pub returns : goal.returns
returns g c =
    let table = c.args.table.now in
    writes_then g.K.Sink.held g.K.Sink.faults c.args.sink.now c.write_refused_front.new.sink c.write_refused_end.new.sink c.in_ok-write_refused_front.field-0 c.write_refused_end.result
    (refused_front c.args.refusal.now.verdict) (refused_end c.args.program.now c.args.bytes.now c.args.refusal.now.verdict table) c.in_ok-write_refused_front.ensures c.write_refused_end.ensures

pub returns-in_err-write_refused_front : goal.returns-in_err-write_refused_front
returns-in_err-write_refused_front g c =
    let table = c.args.table.now in
    text_cut g.K.Sink c.args.sink.now c.write_refused_front.new.sink c.in_err-write_refused_front.field-0.0 c.from_residual.result
    (refused_front c.args.refusal.now.verdict) (refused_end c.args.program.now c.args.bytes.now c.args.refusal.now.verdict table) c.in_err-write_refused_front.ensures c.from_residual.ensures.1
