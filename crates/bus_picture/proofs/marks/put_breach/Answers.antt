use Rattle.std.proofs.Common.{sym, subst}
use Rattle.bus_audit.specs.declared.answer.AuditAnswer.{AuditAnswer}
use Rattle.bus_outer.specs.Texts.{Adds}
use Rattle.bus_picture.specs.Marks.{breach_at, breach_text}
use Rattle.bus_picture.proofs.marks.put_breach.Goals as goal

pub returns-in-Breach : goal.returns-in-Breach
returns-in-Breach g c =
    subst (λ (a : AuditAnswer). Adds g.K.Sink.held g.K.Sink.faults c.args.sink.now c.put_breach_at.new.sink c.args.text.now c.put_breach_at.new.text
    (breach_text c.args.scale.now c.args.lanes.now a)) (sym c.in-Breach.is)
    (subst (λ (a : AuditAnswer). Adds g.K.Sink.held g.K.Sink.faults c.args.sink.now c.put_breach_at.new.sink c.args.text.now c.put_breach_at.new.text
    (breach_at c.args.scale.now c.args.lanes.now c.in-Breach.moment c.in-Breach.terminal a)) c.in-Breach.is c.put_breach_at.ensures)
