use Rattle.std.specs.Prelude.{Result, Ok, Err}
use Rattle.bus_outer.specs.declared.sink.WriteFault.{WriteFault as Fault}
use Rattle.std.proofs.Common.{List, ℕ, Option, ap, ◌∙◌, subst}
use Rattle.bus_outer.specs.Sinks.{WritesText}
use Rattle.bus_outer.proofs.WriteLaws.{writes_then}
use Rattle.bus_advice.specs.Advices.{advices_of}
use Rattle.bus_advice.specs.declared.advice.Advice.{Advice}
use Rattle.bus_cable_plan.specs.Answers.{most_borne_of}
use Rattle.bus_explain.specs.Accepted.{summary_text}
use Rattle.bus_explain.specs.Beyond.{beyond_text}
use Rattle.bus_reach.specs.Bearing.{tolerance_of}
use Rattle.bus_explain.proofs.CutLemmas.{text_cut}
use Rattle.bus_page.proofs.sentences.write_sentences.Goals as goal

pub write_summary-requires : goal.write_summary-requires
write_summary-requires g c = c.requires.accepted

pub returns : goal.returns
returns g c =
    let table = c.args.table.now in
    let figures = c.args.figures.now in
    let told = summary_text table figures.least figures.most in
    let is = ap (λ (t : Option ℕ). told t c.deref.result.now) c.requires.tolerance ∙ ap (λ (l : List Advice). told (tolerance_of table) l) (c.deref.ensures.value ∙ c.requires.advices) in
    let ok : Result (Unit {0}) Fault = Ok c.in_ok-write_summary.field-0 in
    writes_then g.K.Sink.held g.K.Sink.faults c.args.sink.now c.write_summary.new.sink c.write_beyond.new.out c.in_ok-write_summary.field-0 c.write_beyond.result
    (told (tolerance_of table) (advices_of table)) (beyond_text (most_borne_of table) table)
    (subst (WritesText g.K.Sink.held g.K.Sink.faults c.args.sink.now c.write_summary.new.sink ok) is c.in_ok-write_summary.ensures)
    (subst (WritesText g.K.Sink.held g.K.Sink.faults c.write_summary.new.sink c.write_beyond.new.out c.write_beyond.result)
    (ap (λ (o : Option ℕ). beyond_text o table) c.requires.offsets) c.write_beyond.ensures)

pub returns-in_err-write_summary : goal.returns-in_err-write_summary
returns-in_err-write_summary g c =
    let table = c.args.table.now in
    let figures = c.args.figures.now in
    let told = summary_text table figures.least figures.most in
    let is = ap (λ (t : Option ℕ). told t c.deref.result.now) c.requires.tolerance ∙ ap (λ (l : List Advice). told (tolerance_of table) l) (c.deref.ensures.value ∙ c.requires.advices) in
    let cut : Result (Unit {0}) Fault = Err c.in_err-write_summary.field-0.0 in
    text_cut g.K.Sink c.args.sink.now c.write_summary.new.sink c.in_err-write_summary.field-0.0 c.from_residual.result
    (told (tolerance_of table) (advices_of table)) (beyond_text (most_borne_of table) table)
    (subst (WritesText g.K.Sink.held g.K.Sink.faults c.args.sink.now c.write_summary.new.sink cut) is c.in_err-write_summary.ensures)
    c.from_residual.ensures.1
