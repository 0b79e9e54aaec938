use Rattle.bus_outer.proofs.WriteLaws.{writes_then}
use Rattle.bus_explain.specs.Beyond.{offsets_line, rest_text}
use Rattle.bus_explain.proofs.CutLemmas.{text_cut}
use Rattle.bus_explain.proofs.beyond.write_beyond.Goals as goal

pub returns : goal.returns
returns g c =
    writes_then g.K.Sink.held g.K.Sink.faults c.args.out.now c.write_offsets.new.out c.write_rest.new.out c.in_ok-write_offsets.field-0 c.write_rest.result
    (offsets_line c.args.most) (rest_text c.args.table.now) c.in_ok-write_offsets.ensures c.write_rest.ensures

pub returns-in_err-write_offsets : goal.returns-in_err-write_offsets
returns-in_err-write_offsets g c =
    text_cut g.K.Sink c.args.out.now c.write_offsets.new.out c.in_err-write_offsets.field-0.0 c.from_residual.result
    (offsets_line c.args.most) (rest_text c.args.table.now) c.in_err-write_offsets.ensures c.from_residual.ensures.1
