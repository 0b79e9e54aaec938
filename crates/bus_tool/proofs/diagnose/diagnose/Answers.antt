use Rattle.std.specs.Prelude.{◌≡◌, Ok, Err}
use Rattle.std.proofs.Common.{refl, ap, ◌∙◌}
use Rattle.bus_command.specs.Acts.{written}
use Rattle.bus_command.specs.Readers.{Trace, entire, two_sources}
use Rattle.bus_command.proofs.DoLaws.{answered}
use Rattle.bus_findings.proofs.TraceLemmas.{written_with, unwritten_with}
use Rattle.bus_findings.specs.Terminals.{has_fault}
use Rattle.bus_findings.specs.Texts.{findings_text}
use Rattle.bus_tool.specs.Due.{findings_outcome}
use Rattle.bus_tool.proofs.AnswerLaws.{written_findings}
use Rattle.bus_tool.proofs.diagnose.diagnose.Goals as goal

pub returns-in-Ok : goal.returns-in-Ok
returns-in-Ok g c =
    let fault = has_fault c.args.bounds c.args.table.now c.args.trace.now in
    let text = findings_text c.args.bounds c.args.table.now c.args.trace.now in
    answered (two_sources entire Trace) (findings_outcome fault) (λ t. t ≡ text) g.K.Sink c.args.out.now c.write_findings.new.sink text (Ok tt)
    c.after_writing.result (written_findings fault) refl
    (written_with g.K.Sink.held g.K.Sink.faults c.args.out.now c.write_findings.new.sink c.in-Ok.fault tt text c.in-Ok.ensures.text)
    (c.after_writing.ensures ∙ ap (written (Ok tt)) (c.findings_outcome.ensures ∙ ap findings_outcome c.in-Ok.ensures.fault))

pub returns-in-Err : goal.returns-in-Err
returns-in-Err g c =
    let fault = has_fault c.args.bounds c.args.table.now c.args.trace.now in
    let text = findings_text c.args.bounds c.args.table.now c.args.trace.now in
    answered (two_sources entire Trace) (findings_outcome fault) (λ t. t ≡ text) g.K.Sink c.args.out.now c.write_findings.new.sink text
    (Err c.in-Err.failed) c.after_writing-in-Err.result (written_findings fault) refl
    (unwritten_with g.K.Sink.held g.K.Sink.faults c.args.out.now c.write_findings.new.sink c.in-Err.failed text c.in-Err.ensures.text)
    c.after_writing-in-Err.ensures
