use Rattle.std.proofs.Common.{Err, ap, sym, subst, ◌∙◌}
use Rattle.std.proofs.lemmas.Result.{err_from_is_err_and}
use Rattle.bus_command.specs.inside.Looking.{TakesLooked}
use Rattle.bus_command.proofs.CountLemmas.{heard_behind, other_first, first_failed}
use Rattle.bus_command.proofs.heard.count_garbled.Goals as goal

pub returns-in_err-count-clause-taken : goal.returns-in_err-count-clause-taken
returns-in_err-count-clause-taken g c =
    let came = err_from_is_err_and c.from_residual.result c.from_residual.ensures.1 in
    subst (TakesLooked (g.S.Source.left c.args.source.now) (g.S.Source.left c.take_line.new.source)) (sym (came.1 ∙ ap Err came.2))
    (first_failed _ _ c.take_line.new.line c.in_err-count.field-0.0 c.in_err-count.ensures.taken)

pub returns-then-is_first-clause-taken : goal.returns-then-is_first-clause-taken
returns-then-is_first-clause-taken g c =
    heard_behind _ _ _ c.in_ok-count.count c.take_line.new.line c.count_lines.result c.in_ok-count.ensures.taken (sym c.is_first.ensures ∙ c.if-is_first.true)
    c.count_lines.ensures.taken

pub returns-else-is_first-clause-taken : goal.returns-else-is_first-clause-taken
returns-else-is_first-clause-taken g c =
    other_first _ _ c.in_ok-count.count c.take_line.new.line c.in_ok-count.ensures.taken (sym c.is_first.ensures ∙ c.if-is_first.false)
