use Rattle.std.specs.Prelude.{Ok}
use Rattle.bus_tool.specs.Diagnosing.{beside}
use Rattle.bus_tool.proofs.DiagnoseLemmas.{given_ends}
use Rattle.bus_tool.proofs.beside.diagnose_texts.Goals as goal

pub returns-in-Ok : goal.returns-in-Ok
returns-in-Ok g c =
    given_ends g.K.Sink (beside c.args.table.now c.args.text.now) (Ok c.in-Ok.read) c.args.out.now c.diagnose_table.new.out c.diagnose_table.result
    c.in-Ok.ensures.table c.diagnose_table.ensures

pub returns-in-Err : goal.returns-in-Err
returns-in-Err g c = c.explain_beside.ensures c.args.table.now c.args.text.now c.in-Err.ensures.error c.in-Err.ensures.stop
