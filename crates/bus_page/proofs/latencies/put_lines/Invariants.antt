use Rattle.std.proofs.Common.{take}
use Rattle.bus_outer.specs.Texts.{Adds}
use Rattle.bus_page.specs.Latencies.{row_text}
use Rattle.bus_page.specs.Rows.{rows}
use Rattle.bus_page.proofs.latencies.put_lines.Given as goal

abbrev pub invariant-loop-place : goal.invariant-loop-place
invariant-loop-place g l =
    Adds g.K.Sink.held g.K.Sink.faults l.fn.sink l.sink l.fn.text l.text
    (rows (row_text l.table l.most l.tolerance l.sender) 1 0 (take l.place l.lines))
