use Rattle.std.proofs.Common.{sym}
use Rattle.bus_command.proofs.DoLaws.{stopped, ended}
use Rattle.bus_command.specs.Due.{text_due}
use Rattle.bus_command.specs.Readers.{entire, two_sources}
use Rattle.bus_command.specs.Stages.{refusal_in}
use Rattle.bus_tool.specs.Diagnosing.{IsToldBeside, beside_answer, beside_due}
use Rattle.bus_tool.specs.Forms.{entire_beside}
use Rattle.bus_tool.specs.inside.TakenBeside.{AreTaken}
use Rattle.bus_tool.proofs.DiagnoseLemmas.{beside_late, texts_agree}
use Rattle.bus_tool.proofs.beside.explain_both.Goals as goal

pub returns-in-Ok : goal.returns-in-Ok
returns-in-Ok g c =
    ended AreTaken beside_answer IsToldBeside (two_sources entire entire_beside) (λ text. refusal_in (text_due 1 text)) beside_due _ _ _ _ c.in-Ok.texts _ _
    c.diagnose_texts.result
    (texts_agree c.in-Ok.texts c.deref.result.now c.deref-in-Ok.result.now (sym c.deref.ensures.value) (sym c.deref-in-Ok.ensures.value))
    c.in-Ok.ensures.prepares c.diagnose_texts.ensures

pub returns-in-Err : goal.returns-in-Err
returns-in-Err g c =
    stopped AreTaken beside_answer IsToldBeside (two_sources entire entire_beside) (λ text. refusal_in (text_due 1 text)) beside_due _ _ _ c.in-Err.outcome
    beside_late c.in-Err.ensures.prepares
