use Rattle.std.proofs.Common.{List, ℕ, sym, subst, arith}
use Rattle.bus_outer.specs.Texts.{Adds}
use Rattle.bus_outer.proofs.TextLaws.{◌▸◌}
use Rattle.bus_table.specs.inside.Puts.{send_bytes}
use Rattle.bus_table.proofs.CanonicalLemmas.{flat_map_next}
use Rattle.std.proofs.lemmas.Grind.{common_steps}
use Rattle.bus_table.proofs.writing.put_sends.Goals as goal

pub loop-line-preserved : goal.loop-line-preserved
loop-line-preserved g c =
    let next = flat_map_next send_bytes c.args.sends.now c.loop-line.line-index c.line-item.result c.line-item.is c.loop-line-test.true in
    subst (λ (t : List ℕ). Adds g.K.Sink.held g.K.Sink.faults c.args.sink.now c.put_send.new.sink c.args.text.now c.put_send.new.text t) (sym next)
    (c.loop-line.invariant ▸ c.put_send.ensures)

pub returns : goal.returns
returns g c = grind (arith, common_steps)
