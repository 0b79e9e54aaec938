use Rattle.std.proofs.Common.{sym, ap, ◌∙◌, Err, ℕ}
use Rattle.bus_text.specs.declared.reason.Reason.TheVariants.{Ended}
use Rattle.bus_text.specs.Lines.{entries_of}
use Rattle.bus_table.specs.declared.error.TableError.TheVariants.{Text}
use Rattle.bus_table.proofs.StepLemmas.{too_early, answers_judged}
use Rattle.bus_table.proofs.TextLemmas.{steps_whole}
use Rattle.bus_table.proofs.reading.ended.Goals as goal

pub returns-then-not-may_end : goal.returns-then-not-may_end
returns-then-not-may_end c = too_early c.args.text.now c.args.draft c.requires (sym c.if-not-may_end.ensures) ∙ ap (λ (n : ℕ). Err (Text n Ended)) (sym c.line_after.ensures)

pub table-requires : goal.table-requires
table-requires c = (steps_whole (entries_of c.args.text.now) c.args.draft c.requires (sym c.if-not-may_end.ensures)).ranges

pub returns : goal.returns
returns c = answers_judged c.args.text.now c.args.draft c.table.result c.requires (sym c.if-not-may_end.ensures) c.table.ensures
