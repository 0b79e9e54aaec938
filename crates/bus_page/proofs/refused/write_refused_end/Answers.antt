use Rattle.std.specs.Prelude.{Result, Ok, Err}
use Rattle.bus_outer.specs.declared.sink.WriteFault.{WriteFault as Fault}
use Rattle.std.proofs.Common.{List, ℕ, Option, ap, sym, ◌∙◌, subst}
use Rattle.bus_outer.specs.Sinks.{WritesText}
use Rattle.bus_outer.proofs.WriteLaws.{writes_then}
use Rattle.bus_advice.specs.Advices.{advices_of, periodic_table}
use Rattle.bus_advice.specs.declared.advice.Advice.{Advice}
use Rattle.bus_explain.specs.Refused.{refused_text}
use Rattle.bus_regime.specs.Verdicts.{is_accepted}
use Rattle.bus_table.specs.Tables.{Table}
use Rattle.bus_page.specs.Feet.{foot_text}
use Rattle.bus_explain.proofs.CutLemmas.{text_cut}
use Rattle.bus_page.proofs.refused.write_refused_end.Goals as goal

pub write_refused-requires : goal.write_refused-requires
write_refused-requires g c = ap is_accepted c.requires.verdict ∙ c.requires.refused

pub returns : goal.returns
returns g c =
    let table = c.args.table.now in
    let refusal = c.args.refusal.now in
    let told = refused_text table refusal.verdict in
    let is = ap (λ (l : List Advice). told l refusal.planned) (c.deref.ensures.value ∙ c.requires.advices) ∙ ap (λ (t : Option Table). told (advices_of table) t) c.requires.planned in
    let ok : Result (Unit {0}) Fault = Ok c.in_ok-write_refused.field-0 in
    writes_then g.K.Sink.held g.K.Sink.faults c.args.sink.now c.write_refused.new.sink c.write_foot.new.sink c.in_ok-write_refused.field-0 c.write_foot.result
    (told (advices_of table) (periodic_table table)) (foot_text c.args.program.now c.args.bytes.now)
    (subst (WritesText g.K.Sink.held g.K.Sink.faults c.args.sink.now c.write_refused.new.sink ok) is c.in_ok-write_refused.ensures)
    c.write_foot.ensures

pub returns-in_err-write_refused : goal.returns-in_err-write_refused
returns-in_err-write_refused g c =
    let table = c.args.table.now in
    let refusal = c.args.refusal.now in
    let told = refused_text table refusal.verdict in
    let is = ap (λ (l : List Advice). told l refusal.planned) (c.deref.ensures.value ∙ c.requires.advices) ∙ ap (λ (t : Option Table). told (advices_of table) t) c.requires.planned in
    let cut : Result (Unit {0}) Fault = Err c.in_err-write_refused.field-0.0 in
    text_cut g.K.Sink c.args.sink.now c.write_refused.new.sink c.in_err-write_refused.field-0.0 c.from_residual.result
    (told (advices_of table) (periodic_table table)) (foot_text c.args.program.now c.args.bytes.now)
    (subst (WritesText g.K.Sink.held g.K.Sink.faults c.args.sink.now c.write_refused.new.sink cut) is c.in_err-write_refused.ensures)
    c.from_residual.ensures.1
