use Rattle.std.proofs.Common.{◌≡◌, refl, ap}
use Rattle.bus_command.specs.declared.outcome.Outcome.TheVariants.{Answered}
use Rattle.bus_command.specs.Readers.{entire, one_source}
use Rattle.bus_command.proofs.DoLaws.{answered}
use Rattle.bus_page.specs.Pages.{unread_page}
use Rattle.bus_view.specs.Itself.{version_text}
use Rattle.bus_view.proofs.paging.page_line.Goals as goal

pub returns : goal.returns
returns g c =
    answered (one_source entire) Answered (λ text. text ≡ unread_page version_text c.args.text.now c.args.line c.args.reason) g.K.Sink
    c.args.out.now c.write_unread_page.new.sink (unread_page c.version.result.now c.args.text.now c.args.line c.args.reason)
    c.write_unread_page.result c.after_writing.result refl
    (ap (λ program. unread_page program c.args.text.now c.args.line c.args.reason) c.version.ensures) c.write_unread_page.ensures
    c.after_writing.ensures
