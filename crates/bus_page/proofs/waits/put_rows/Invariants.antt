use Rattle.std.proofs.Common.{◌≡◌, ◌+◌, ◌*◌, take}
use Rattle.bus_outer.specs.Texts.{Adds}
use Rattle.bus_page.specs.Waits.{sender_text}
use Rattle.bus_page.specs.Rows.{rows}
use Rattle.bus_page.proofs.waits.put_rows.Given as goal

abbrev pub invariant-loop-k : goal.invariant-loop-k
invariant-loop-k g l = record {
  text : Adds g.K.Sink.held g.K.Sink.faults l.fn.sink l.sink l.fn.text l.text (rows (sender_text l.scale l.most l.greatest) 210 40 (take l.k l.senders));
  top : l.top ≡ 40 + 210 * l.k;
}
