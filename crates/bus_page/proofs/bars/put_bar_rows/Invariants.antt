use Rattle.std.proofs.Common.{◌≡◌, ◌+◌, ◌*◌, take}
use Rattle.bus_outer.specs.Texts.{Adds}
use Rattle.bus_page.specs.Bars.{bar_text}
use Rattle.bus_page.specs.Rows.{rows}
use Rattle.bus_page.proofs.bars.put_bar_rows.Given as goal

abbrev pub invariant-loop-limit : goal.invariant-loop-limit
invariant-loop-limit g l = record {
  text : Adds g.K.Sink.held g.K.Sink.faults l.fn.sink l.sink l.fn.text l.text (rows (bar_text l.scale l.tolerance) 210 40 (take l.limit-index l.limits));
  top : l.top ≡ 40 + 210 * l.limit-index;
}
