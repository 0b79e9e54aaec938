use Rattle.std.proofs.Common.{sym, subst}
use Rattle.std.proofs.lemmas.Result.{err_from_is_err_and}
use Rattle.bus_text.specs.Gives.{Gives}
use Rattle.bus_cable.proofs.BodyLemmas.{header_fails, body_left}
use Rattle.bus_cable.proofs.reading.read.Goals as goal

pub returns-in_err-lines : goal.returns-in_err-lines
returns-in_err-lines c =
    let p = err_from_is_err_and c.from_residual.result c.from_residual.ensures.1 in
    rw (p.1, p.2) (header_fails c.in_err-lines.field-0.0 c.args.text.now c.in_err-lines.ensures.refused)

pub returns : goal.returns
returns c = subst (λ r. Gives (λ read. read) c.body.result r) (sym (body_left c.args.text.now c.in_ok-lines.lines c.in_ok-lines.ensures.lines)) c.body.ensures
