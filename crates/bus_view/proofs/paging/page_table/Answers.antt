use Rattle.std.proofs.Common.{◌≡◌, arith, ap, ◌∙◌}
use Rattle.bus_command.specs.Acts.{written}
use Rattle.bus_command.specs.Readers.{entire, one_source}
use Rattle.bus_command.proofs.DoLaws.{answered, roomless}
use Rattle.bus_page.specs.Pages.{table_page}
use Rattle.bus_regime.specs.Verdicts.{is_accepted, verdict_of}
use Rattle.bus_view.specs.Due.{accepted_outcome}
use Rattle.bus_view.specs.Itself.{version_text}
use Rattle.bus_view.proofs.PageLaws.{accepted_answers, accepted_late}
use Rattle.bus_view.proofs.paging.page_table.Goals as goal

pub returns-in-Ok : goal.returns-in-Ok
returns-in-Ok g c =
    let table = c.args.table.now in
    answered (one_source entire) (accepted_outcome (is_accepted (verdict_of table)))
    (λ text. text ≡ table_page version_text c.args.text.now c.args.asked table) g.K.Sink c.args.out.now c.write_page.new.sink
    (table_page c.version.result.now c.args.text.now c.args.asked table) c.write_page.result c.after_writing.result
    (accepted_answers (is_accepted (verdict_of table)))
    (ap (λ program. table_page program c.args.text.now c.args.asked table) c.version.ensures) c.write_page.ensures
    (c.after_writing.ensures ∙ ap (written c.write_page.result) c.answer_to-answer.ensures)

pub returns-in-Err : goal.returns-in-Err
returns-in-Err g c =
    let due = accepted_outcome (is_accepted (verdict_of c.args.table.now)) in
    roomless (one_source entire) due _ _ (let late = accepted_late (is_accepted (verdict_of c.args.table.now)) in omega arith)
