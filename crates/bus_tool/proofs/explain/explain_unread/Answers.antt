use Rattle.std.proofs.Common.{◌≡◌, arith, refl, sym, ◌∙◌, subst}
use Rattle.std.specs.Prelude.{Err}
use Rattle.bus_command.specs.Acts.{Ends}
use Rattle.bus_command.specs.Outside.{sink_seen}
use Rattle.bus_command.specs.declared.outcome.Outcome.TheVariants.{Answered}
use Rattle.bus_command.specs.Readers.{entire, one_source}
use Rattle.bus_command.proofs.DoLaws.{answered, roomless}
use Rattle.bus_explain.specs.Unread.{unread_text}
use Rattle.bus_explain.specs.Wholes.{whole_text}
use Rattle.bus_table.specs.Gives.{Fails}
use Rattle.bus_table.specs.Reading.{answer_of}
use Rattle.bus_table.specs.Stops.{Stop}
use Rattle.bus_table.specs.declared.error.TableError.{TableError}
use Rattle.bus_table.specs.declared.error.TableError.TheVariants.{Text, Whole, Memory}
use Rattle.bus_tool.specs.Due.{explain_answer}
use Rattle.bus_tool.proofs.ExplainLemmas.{answer_ends, explain_late}
use Rattle.bus_tool.proofs.explain.explain_unread.Goals as goal

pub returns-in-Text : goal.returns-in-Text
returns-in-Text g c = λ text fails at.
    answer_ends g.K.Sink text (Err (Text c.in-Text.line c.in-Text.reason)) c.args.out.now c.explain_line.new.out c.explain_line.result
    (subst (λ (e : TableError). Fails e (answer_of text)) c.in-Text.is fails)
    (subst (λ (s : Stop). Ends (one_source entire) Answered (λ told. told ≡ unread_text c.in-Text.line c.in-Text.reason s)
    (sink_seen g.K.Sink c.args.out.now) (sink_seen g.K.Sink c.explain_line.new.out) c.explain_line.result)
    (at (λ m. let w : Text c.in-Text.line c.in-Text.reason ≡ Memory = sym c.in-Text.is ∙ m in cc)) c.explain_line.ensures)

pub returns-in-Whole : goal.returns-in-Whole
returns-in-Whole g c = λ text fails at.
    answer_ends g.K.Sink text (Err (Whole c.in-Whole.reason)) c.args.out.now c.write_whole.new.sink c.after_writing.result
    (subst (λ (e : TableError). Fails e (answer_of text)) c.in-Whole.is fails)
    (answered (one_source entire) Answered (λ told. told ≡ whole_text c.in-Whole.reason) g.K.Sink c.args.out.now c.write_whole.new.sink
    (whole_text c.in-Whole.reason) c.write_whole.result c.after_writing.result refl refl c.write_whole.ensures c.after_writing.ensures)

pub returns-in-Memory : goal.returns-in-Memory
returns-in-Memory g c = λ text fails at.
    roomless (one_source entire) (explain_answer text) _ _ (let late = explain_late text in omega arith)
