use Rattle.std.proofs.Common.{sym}
use Rattle.bus_command.proofs.DoLaws.{stopped, ended}
use Rattle.bus_command.proofs.PrepareLaws.{prepares_one}
use Rattle.bus_command.specs.Due.{text_due}
use Rattle.bus_command.specs.Readers.{entire, one_source}
use Rattle.bus_command.specs.Stages.{refusal_in}
use Rattle.bus_command.specs.Steps.{IsText}
use Rattle.bus_tool.specs.Due.{explain_answer}
use Rattle.bus_tool.specs.Texts.{AreFacts}
use Rattle.bus_tool.proofs.ExplainLemmas.{explain_late}
use Rattle.bus_tool.proofs.FactsLemmas.{facts_agree}
use Rattle.bus_tool.proofs.facts.facts.Goals as goal

pub returns-in-Ok : goal.returns-in-Ok
returns-in-Ok g c = λ second.
    ended IsText explain_answer AreFacts (one_source entire) (λ first. refusal_in (text_due 1 first)) (λ a b. text_due 1 a) _ _ _ _ c.in-Ok.text _ _
    c.write_facts.result (facts_agree c.in-Ok.text c.deref.result.now (sym c.deref.ensures.value))
    (prepares_one IsText entire (text_due 1) _ _ second _ c.in-Ok.ensures.takes) c.write_facts.ensures

pub returns-in-Err : goal.returns-in-Err
returns-in-Err g c = λ second.
    stopped IsText explain_answer AreFacts (one_source entire) (λ first. refusal_in (text_due 1 first)) (λ a b. text_due 1 a) _ _ _ c.in-Err.outcome
    explain_late (prepares_one IsText entire (text_due 1) _ _ second _ c.in-Err.ensures.takes)
