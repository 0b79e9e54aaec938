use Rattle.std.proofs.Common.{List, ℕ, subst}
use Rattle.bus_table.specs.declared.line.SendLine.{SendLine}
use Rattle.bus_outer.specs.Texts.{Adds}
use Rattle.bus_page.specs.Latencies.{row_text}
use Rattle.bus_page.specs.Rows.{rows}
use Rattle.bus_page.proofs.latencies.put_sender.Goals as goal

pub returns : goal.returns
returns g c =
    subst (λ (l : List SendLine). Adds g.K.Sink.held g.K.Sink.faults c.args.sink.now c.put_lines.new.sink c.args.text.now c.put_lines.new.text
    (rows (row_text c.args.table.now c.args.most c.args.tolerance c.args.sender.now) 1 0 l)) c.sends-lines.ensures.value c.put_lines.ensures
