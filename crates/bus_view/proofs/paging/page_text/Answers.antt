use Rattle.std.specs.Prelude.{Ok}
use Rattle.bus_view.proofs.PageLaws.{answer_ends}
use Rattle.bus_view.proofs.paging.page_text.Goals as goal

pub returns-in-Ok : goal.returns-in-Ok
returns-in-Ok g c =
    answer_ends g.K.Sink c.args.asked c.args.text.now (Ok c.in-Ok.table) c.args.out.now c.page_table.new.out c.page_table.result c.in-Ok.ensures.table
    c.page_table.ensures

pub returns-in-Err : goal.returns-in-Err
returns-in-Err g c = c.page_unread.ensures
