use Rattle.std.proofs.Common.{arith, ap, ◌∙◌}
use Rattle.bus_table.specs.Reading.{answer_of}
use Rattle.bus_command.specs.Acts.{written}
use Rattle.bus_command.specs.Readers.{entire, one_source}
use Rattle.bus_command.proofs.DoLaws.{answered, roomless}
use Rattle.bus_tool.proofs.ExplainLemmas.{explained, explain_late}
use Rattle.bus_tool.proofs.FactsLemmas.{outcome_is}
use Rattle.bus_tool.specs.Due.{explain_answer}
use Rattle.bus_tool.proofs.facts.write_facts.Goals as goal

pub returns-in-Ok : goal.returns-in-Ok
returns-in-Ok g c =
    answered (one_source entire) _ _ g.K.Sink c.args.out.now c.write_all.new.sink c.as_bytes.result.now c.write_all.result c.after_writing.result
    (explained c.args.text.now) (c.as_bytes.ensures.value ∙ c.in-Ok.ensures.line) c.write_all.ensures
    (c.after_writing.ensures ∙ ap (written c.write_all.result) (c.answer.ensures ∙ outcome_is (answer_of c.args.text.now) c.in-Ok.facts.accepted c.in-Ok.ensures.accepted))

pub returns-in-Err : goal.returns-in-Err
returns-in-Err g c = roomless (one_source entire) (explain_answer c.args.text.now) _ _ (let late = explain_late c.args.text.now in omega arith)
