use Rattle.std.proofs.Common.{List, ℕ, sym, subst, arith}
use Rattle.std.proofs.lemmas.Grind.{common_steps}
use Rattle.bus_outer.specs.Texts.{Adds}
use Rattle.bus_outer.proofs.TextLaws.{◌▸◌}
use Rattle.bus_takes.specs.Matrix.{cell_text}
use Rattle.bus_strings.proofs.ListLaws.{flat_map-take}
use Rattle.bus_takes.proofs.matrix.put_cells.Goals as goal

pub loop-sender-preserved : goal.loop-sender-preserved
loop-sender-preserved g c =
    let next = flat_map-take (cell_text (record { number = c.args.number; takes = c.args.takes.now })) c.args.senders.now c.loop-sender.sender-index c.sender-item.result c.loop-sender-test.true c.sender-item.is in
    subst (λ (t : List ℕ). Adds g.K.Sink.held g.K.Sink.faults c.args.sink.now c.put.new.sink c.args.text.now c.put.new.self t) (sym next)
    (c.loop-sender.invariant ▸ subst (λ (t : List ℕ). Adds g.K.Sink.held g.K.Sink.faults c.loop-sender.sink c.put.new.sink c.loop-sender.text c.put.new.self t) c.cell.ensures c.put.ensures)

pub returns : goal.returns
returns g c = grind (arith, common_steps)
