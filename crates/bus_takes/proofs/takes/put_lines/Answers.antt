use Rattle.std.proofs.Common.{List, ℕ, sym, subst, arith}
use Rattle.std.proofs.lemmas.Grind.{common_steps}
use Rattle.bus_outer.specs.Texts.{Adds}
use Rattle.bus_outer.proofs.TextLaws.{◌▸◌}
use Rattle.bus_takes.specs.Takes.{take_text}
use Rattle.bus_strings.proofs.ListLaws.{flat_map-take}
use Rattle.bus_takes.proofs.takes.put_lines.Goals as goal

pub loop-take-preserved : goal.loop-take-preserved
loop-take-preserved g c =
    let next = flat_map-take (take_text c.args.table.now c.args.number) c.args.takes.now c.loop-take.take-index c.take-item.result c.loop-take-test.true c.take-item.is in
    subst (λ (t : List ℕ). Adds g.K.Sink.held g.K.Sink.faults c.args.sink.now c.put_take.new.sink c.args.text.now c.put_take.new.text t) (sym next)
    (c.loop-take.invariant ▸ c.put_take.ensures)

pub returns : goal.returns
returns g c = grind (arith, common_steps)
