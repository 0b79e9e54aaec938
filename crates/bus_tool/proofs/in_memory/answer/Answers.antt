use Rattle.std.proofs.Common.{sym, ◌∙◌}
use Rattle.bus_tool.proofs.AnswerLemmas.{answer_is, answer_unfailing}
use Rattle.bus_tool.proofs.in_memory.answer.Goals as goal

pub returns-clause-due : goal.returns-clause-due
returns-clause-due c =
    let came = c.tool.ensures.acts in
    answer_is _ _ _ _ _ _ _ came.0 _ c.new-first.ensures.left c.new-second.ensures.left came.1 came.3

pub returns-clause-read : goal.returns-clause-read
returns-clause-read c = let came = c.tool.ensures.acts in λ e. (answer_unfailing _ _ _ _ _ came.0 came.1).0 (sym came.3 ∙ e)

pub returns-clause-written : goal.returns-clause-written
returns-clause-written c = let came = c.tool.ensures.acts in λ e. (answer_unfailing _ _ _ _ _ came.0 came.1).1 (sym came.3 ∙ e)
