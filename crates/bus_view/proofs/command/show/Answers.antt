use Rattle.std.proofs.Common.{Bool, Ok, Err, subst}
use Rattle.bus_command.proofs.DoLaws.{stopped, ended}
use Rattle.bus_command.specs.declared.recorded.Recorded.{Recorded}
use Rattle.bus_command.specs.Outside.{sources_seen}
use Rattle.bus_command.specs.Steps.{Prepares, Same}
use Rattle.bus_command.specs.Due.{table_refusal_of, recorded_due}
use Rattle.bus_view.specs.Due.{recorded_answer, IsView}
use Rattle.bus_command.specs.Readers.{by_recorded}
use Rattle.bus_view.specs.declared.refusal.Doubled.{Doubled}
use Rattle.bus_view.specs.Forms.{hears}
use Rattle.bus_view.proofs.AnswerLaws.{recorded_late, recorded_agree}
use Rattle.bus_view.proofs.command.show.Goals as goal

pub returns-in-Ok : goal.returns-in-Ok
returns-in-Ok g c =
    let prepares = subst (λ (b : Bool). Prepares {R = Doubled} {X = Recorded} {Y = Recorded} Same (by_recorded b) table_refusal_of (recorded_due {R = Doubled} b)
    (sources_seen g.S.Source c.args.first.now c.args.second.now) (sources_seen g.S.Source c.take_recorded.new.first c.take_recorded.new.second)
    (Ok c.in-Ok.field-0)) c.hears.ensures c.in-Ok.ensures.prepares in
    ended Same (recorded_answer c.args.view) (IsView c.args.view) (by_recorded (hears c.args.view)) table_refusal_of (recorded_due (hears c.args.view)) _ _ _ _ c.in-Ok.field-0 _ _ c.answer.result
    (recorded_agree c.args.view c.in-Ok.field-0) prepares c.answer.ensures

pub returns-in-Err : goal.returns-in-Err
returns-in-Err g c =
    let prepares = subst (λ (b : Bool). Prepares {R = Doubled} {X = Recorded} {Y = Recorded} Same (by_recorded b) table_refusal_of (recorded_due {R = Doubled} b)
    (sources_seen g.S.Source c.args.first.now c.args.second.now) (sources_seen g.S.Source c.take_recorded.new.first c.take_recorded.new.second)
    (Err c.in-Err.outcome)) c.hears.ensures c.in-Err.ensures.prepares in
    stopped Same (recorded_answer c.args.view) (IsView c.args.view) (by_recorded (hears c.args.view)) table_refusal_of (recorded_due (hears c.args.view)) _ _ _ c.in-Err.outcome
    (recorded_late c.args.view) prepares
