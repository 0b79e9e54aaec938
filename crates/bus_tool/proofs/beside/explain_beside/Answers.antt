use Rattle.std.proofs.Common.{◌≡◌, arith, refl, sym, ◌∙◌, ap, subst}
use Rattle.bus_command.specs.declared.outcome.Outcome.TheVariants.{Answered}
use Rattle.bus_command.specs.Readers.{entire, one_source, two_sources}
use Rattle.bus_command.proofs.DoLaws.{answered, roomless}
use Rattle.bus_explain.specs.Unread.{unread_text}
use Rattle.bus_explain.specs.Wholes.{whole_text}
use Rattle.bus_table.specs.Gives.{Fails}
use Rattle.bus_table.specs.Reading.{answer_of}
use Rattle.bus_table.specs.declared.error.TableError.{TableError}
use Rattle.bus_table.specs.declared.error.TableError.TheVariants.{Text, Whole, Memory}
use Rattle.bus_tool.specs.Diagnosing.{beside, beside_answer}
use Rattle.bus_tool.specs.Forms.{entire_beside}
use Rattle.bus_tool.proofs.DiagnoseLemmas.{beside_late, unread_ends}
use Rattle.bus_tool.proofs.beside.explain_beside.Goals as goal

pub returns-in-Text : goal.returns-in-Text
returns-in-Text g c = λ table text fails at.
    unread_ends g.K.Sink (beside table text) (Text c.in-Text.line c.in-Text.reason)
    (unread_text c.in-Text.line c.in-Text.reason c.args.unread.stop) c.args.out.now c.explain_line.new.out c.explain_line.result
    (subst (λ (e : TableError). Fails e (answer_of table)) c.in-Text.is fails)
    (ap (unread_text c.in-Text.line c.in-Text.reason)
    (at (λ m. let w : Text c.in-Text.line c.in-Text.reason ≡ Memory = sym c.in-Text.is ∙ m in cc)))
    c.explain_line.ensures

pub returns-in-Whole : goal.returns-in-Whole
returns-in-Whole g c = λ table text fails at.
    unread_ends g.K.Sink (beside table text) (Whole c.in-Whole.reason) (whole_text c.in-Whole.reason) c.args.out.now c.write_whole.new.sink
    c.after_writing.result (subst (λ (e : TableError). Fails e (answer_of table)) c.in-Whole.is fails) refl
    (answered (one_source entire) Answered (λ told. told ≡ whole_text c.in-Whole.reason) g.K.Sink c.args.out.now c.write_whole.new.sink
    (whole_text c.in-Whole.reason) c.write_whole.result c.after_writing.result refl refl c.write_whole.ensures c.after_writing.ensures)

pub returns-in-Memory : goal.returns-in-Memory
returns-in-Memory g c = λ table text fails at.
    roomless (two_sources entire entire_beside) (beside_answer (beside table text)) _ _
    (let late = beside_late (beside table text) in omega (arith, late))
