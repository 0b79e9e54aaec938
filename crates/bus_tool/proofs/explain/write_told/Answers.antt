use Rattle.bus_outer.proofs.WriteLaws.{writes_then}
use Rattle.bus_explain.specs.Accepted.{accepted_text}
use Rattle.bus_explain.specs.Beyond.{beyond_text}
use Rattle.bus_explain.proofs.CutLemmas.{text_cut}
use Rattle.bus_tool.proofs.explain.write_told.Goals as goal

pub returns : goal.returns
returns g c =
    writes_then g.K.Sink.held g.K.Sink.faults c.args.out.now c.write_accepted.new.sink c.write_beyond.new.out c.in_ok-write_accepted.field-0
    c.write_beyond.result (accepted_text c.args.table.now c.args.least c.args.most c.args.bears.tolerance c.args.advices.now)
    (beyond_text c.args.bears.offsets c.args.table.now) c.in_ok-write_accepted.ensures c.write_beyond.ensures

pub returns-in_err-write_accepted : goal.returns-in_err-write_accepted
returns-in_err-write_accepted g c =
    text_cut g.K.Sink c.args.out.now c.write_accepted.new.sink c.in_err-write_accepted.field-0.0 c.from_residual.result
    (accepted_text c.args.table.now c.args.least c.args.most c.args.bears.tolerance c.args.advices.now)
    (beyond_text c.args.bears.offsets c.args.table.now)
    c.in_err-write_accepted.ensures c.from_residual.ensures.1
