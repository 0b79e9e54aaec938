use Rattle.std.proofs.Common.{sym}
use Rattle.bus_command.proofs.DoLaws.{stopped, ended}
use Rattle.bus_command.proofs.PrepareLaws.{prepares_one}
use Rattle.bus_command.specs.Due.{text_due}
use Rattle.bus_command.specs.Readers.{entire, one_source}
use Rattle.bus_command.specs.Stages.{refusal_in}
use Rattle.bus_command.specs.Steps.{IsText}
use Rattle.bus_view.specs.Due.{IsPage, page_answer}
use Rattle.bus_view.proofs.PageLaws.{page_late, page_agrees}
use Rattle.bus_view.proofs.paging.page.Goals as goal

pub returns-in-Ok : goal.returns-in-Ok
returns-in-Ok g c = λ second.
    ended IsText page_answer (IsPage c.args.asked) (one_source entire) (λ first. refusal_in (text_due 1 first)) (λ a b. text_due 1 a) _ _ _ _ c.in-Ok.text _ _
    c.page_text.result (page_agrees c.args.asked c.in-Ok.text c.deref.result.now (sym c.deref.ensures.value))
    (prepares_one IsText entire (text_due 1) _ _ second _ c.in-Ok.ensures.takes) c.page_text.ensures

pub returns-in-Err : goal.returns-in-Err
returns-in-Err g c = λ second.
    stopped IsText page_answer (IsPage c.args.asked) (one_source entire) (λ first. refusal_in (text_due 1 first)) (λ a b. text_due 1 a) _ _ _ c.in-Err.outcome
    page_late (prepares_one IsText entire (text_due 1) _ _ second _ c.in-Err.ensures.takes)
