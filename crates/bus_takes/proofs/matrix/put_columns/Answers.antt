use Rattle.std.proofs.Common.{List, ℕ, sym, subst, arith}
use Rattle.std.proofs.lemmas.Grind.{common_steps}
use Rattle.bus_outer.specs.Texts.{Adds}
use Rattle.bus_outer.proofs.TextLaws.{◌▸◌}
use Rattle.bus_takes.specs.Matrix.{column_text}
use Rattle.bus_strings.proofs.ListLaws.{flat_map-take}
use Rattle.bus_takes.proofs.matrix.put_columns.Goals as goal

pub loop-sender-preserved : goal.loop-sender-preserved
loop-sender-preserved g c =
    let next = flat_map-take (column_text) c.args.senders.now c.loop-sender.sender-index c.sender-item.result c.loop-sender-test.true c.sender-item.is in
    subst (λ (t : List ℕ). Adds g.K.Sink.held g.K.Sink.faults c.args.sink.now c.put_column.new.sink c.args.text.now c.put_column.new.text t) (sym next)
    (c.loop-sender.invariant ▸ c.put_column.ensures)

pub returns : goal.returns
returns g c = grind (arith, common_steps)
