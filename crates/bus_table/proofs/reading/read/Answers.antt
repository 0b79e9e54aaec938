use Rattle.std.proofs.lemmas.Result.{err_from_is_err_and}
use Rattle.bus_text.specs.Entries.{entry}
use Rattle.bus_table.proofs.StepLemmas.{steps_go, steps_end, step_fails}
use Rattle.bus_table.proofs.reading.read.Goals as goal
use Rattle.std.proofs.Common.{sym}

pub loop-line-preserved : goal.loop-line-preserved
loop-line-preserved c = steps_go c.loop-line.draft c.take_line.new.self c.loop-line.line-iterator c.next.new.self (entry c.in-Some.line) _ c.in-Some.ensures.steps c.in_ok-take_line.ensures c.loop-line.invariant

pub returns-in_err-take_line : goal.returns-in_err-take_line
returns-in_err-take_line c =
    let p = err_from_is_err_and c.from_residual.result c.from_residual.ensures.1 in
    rw (p.1, p.2) (step_fails c.in_err-take_line.field-0.0 c.loop-line.draft c.loop-line.line-iterator c.next.new.self (entry c.in-Some.line) c.args.text.now c.in-Some.ensures.steps c.in_err-take_line.ensures c.loop-line.invariant)

pub ended-requires : goal.ended-requires
ended-requires c = steps_end c.loop-line.draft c.loop-line.line-iterator _ c.in-None.ensures.steps.0 c.loop-line.invariant
