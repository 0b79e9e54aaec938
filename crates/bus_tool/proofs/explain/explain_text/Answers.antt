use Rattle.std.specs.Prelude.{Ok}
use Rattle.bus_tool.proofs.ExplainLemmas.{answer_ends}
use Rattle.bus_tool.proofs.explain.explain_text.Goals as goal

pub returns-in-Ok : goal.returns-in-Ok
returns-in-Ok g c =
    answer_ends g.K.Sink c.args.text.now (Ok c.in-Ok.table) c.args.out.now c.explain_table.new.out c.explain_table.result c.in-Ok.ensures.table
    c.explain_table.ensures

pub returns-in-Err : goal.returns-in-Err
returns-in-Err g c = c.explain_unread.ensures c.args.text.now c.in-Err.ensures.error c.in-Err.ensures.stop
