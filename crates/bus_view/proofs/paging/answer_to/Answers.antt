use Rattle.std.proofs.Common.{sym, ap, subst}
use Rattle.bus_page.specs.Findings.{AreFigures, AreFindings, IsRefusalOf}
use Rattle.bus_regime.specs.Verdicts.{is_accepted}
use Rattle.bus_view.specs.Due.{accepted_outcome}
use Rattle.bus_view.proofs.paging.answer_to.Goals as goal

pub returns-in-Accepted : goal.returns-in-Accepted
returns-in-Accepted c =
    let own : AreFigures c.args.table.now c.in-Accepted.field-0 = subst (AreFindings c.args.table.now) c.in-Accepted.is c.requires in
    sym (ap (λ verdict. accepted_outcome (is_accepted verdict)) own.accepted.1)

pub returns-in-Refused : goal.returns-in-Refused
returns-in-Refused c =
    let own : IsRefusalOf c.args.table.now c.in-Refused.field-0 = subst (AreFindings c.args.table.now) c.in-Refused.is c.requires in
    sym (ap accepted_outcome own.refused)
