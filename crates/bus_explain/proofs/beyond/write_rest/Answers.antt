use Rattle.std.proofs.Common.{ap, subst}
use Rattle.bus_outer.specs.Sinks.{WritesText}
use Rattle.bus_outer.specs.declared.sink.WriteFault.{WriteFault as Fault}
use Rattle.std.specs.Prelude.{Result, Ok, Err}
use Rattle.bus_outer.proofs.WriteLaws.{writes_then}
use Rattle.bus_takes.specs.Takes.{takes_text}
use Rattle.bus_explain.specs.Beyond.{drifting_in}
use Rattle.bus_explain.proofs.CutLemmas.{text_cut}
use Rattle.bus_explain.proofs.beyond.write_rest.Goals as goal

pub returns : goal.returns
returns g c =
    let table = c.args.table.now in
    let ok : Result (Unit {0}) Fault = Ok c.in_ok-write_drift.field-0 in
    writes_then g.K.Sink.held g.K.Sink.faults c.args.out.now c.write_drift.new.out c.write_takes.new.out c.in_ok-write_drift.field-0 c.write_takes.result
    (drifting_in table.mode table) (takes_text table)
    (subst (WritesText g.K.Sink.held g.K.Sink.faults c.args.out.now c.write_drift.new.out ok)
    (ap (λ mode. drifting_in mode table) c.mode.ensures.value) c.in_ok-write_drift.ensures)
    c.write_takes.ensures

pub returns-in_err-write_drift : goal.returns-in_err-write_drift
returns-in_err-write_drift g c =
    let table = c.args.table.now in
    let cut : Result (Unit {0}) Fault = Err c.in_err-write_drift.field-0.0 in
    text_cut g.K.Sink c.args.out.now c.write_drift.new.out c.in_err-write_drift.field-0.0 c.from_residual.result
    (drifting_in table.mode table) (takes_text table)
    (subst (WritesText g.K.Sink.held g.K.Sink.faults c.args.out.now c.write_drift.new.out cut)
    (ap (λ mode. drifting_in mode table) c.mode.ensures.value) c.in_err-write_drift.ensures)
    c.from_residual.ensures.1
