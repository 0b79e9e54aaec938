use Rattle.std.proofs.Common.{◌≡◌, arith, refl, sym, ap, ◌∙◌, subst}
use Rattle.std.specs.Prelude.{Err}
use Rattle.bus_command.specs.declared.outcome.Outcome.TheVariants.{Answered}
use Rattle.bus_command.specs.Readers.{entire, one_source}
use Rattle.bus_command.proofs.DoLaws.{answered, roomless}
use Rattle.bus_page.specs.Pages.{whole_page}
use Rattle.bus_table.specs.Gives.{Fails}
use Rattle.bus_table.specs.Reading.{answer_of}
use Rattle.bus_table.specs.declared.error.TableError.{TableError}
use Rattle.bus_table.specs.declared.error.TableError.TheVariants.{Text, Whole, Memory}
use Rattle.bus_view.specs.Due.{page_answer}
use Rattle.bus_view.specs.Itself.{version_text}
use Rattle.bus_view.proofs.PageLaws.{answer_ends, page_late}
use Rattle.bus_view.proofs.paging.page_unread.Goals as goal

pub page_line-requires : goal.page_line-requires
page_line-requires g c = c.requires.stop (λ m. let w : Text c.in-Text.line c.in-Text.reason ≡ Memory = sym c.in-Text.is ∙ m in cc)

pub returns-in-Text : goal.returns-in-Text
returns-in-Text g c =
    answer_ends g.K.Sink c.args.asked c.args.text.now (Err (Text c.in-Text.line c.in-Text.reason)) c.args.out.now c.page_line.new.out c.page_line.result
    (subst (λ (e : TableError). Fails e (answer_of c.args.text.now)) c.in-Text.is c.requires.error) c.page_line.ensures

pub returns-in-Whole : goal.returns-in-Whole
returns-in-Whole g c =
    answer_ends g.K.Sink c.args.asked c.args.text.now (Err (Whole c.in-Whole.reason)) c.args.out.now c.write_whole_page.new.sink c.after_writing.result
    (subst (λ (e : TableError). Fails e (answer_of c.args.text.now)) c.in-Whole.is c.requires.error)
    (answered (one_source entire) Answered (λ text. text ≡ whole_page version_text c.args.text.now c.in-Whole.reason) g.K.Sink c.args.out.now
    c.write_whole_page.new.sink (whole_page c.version.result.now c.args.text.now c.in-Whole.reason) c.write_whole_page.result
    c.after_writing.result refl (ap (λ program. whole_page program c.args.text.now c.in-Whole.reason) c.version.ensures)
    c.write_whole_page.ensures c.after_writing.ensures)

pub returns-in-Memory : goal.returns-in-Memory
returns-in-Memory g c =
    roomless (one_source entire) (page_answer c.args.text.now) _ _ (let late = page_late c.args.text.now in omega arith)
