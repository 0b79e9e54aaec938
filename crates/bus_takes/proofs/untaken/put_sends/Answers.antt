use Rattle.std.proofs.Common.{List, ℕ, sym, subst, arith}
use Rattle.std.proofs.lemmas.Grind.{common_steps}
use Rattle.bus_outer.specs.Texts.{Adds}
use Rattle.bus_outer.proofs.TextLaws.{◌▸◌}
use Rattle.bus_takes.specs.Takes.{send_text}
use Rattle.bus_strings.proofs.ListLaws.{flat_map-take}
use Rattle.bus_takes.proofs.untaken.put_sends.Goals as goal

pub loop-send-preserved : goal.loop-send-preserved
loop-send-preserved g c =
    let next = flat_map-take (send_text c.args.table.now c.args.number) c.args.sends.now c.loop-send.send-index c.send-item.result c.loop-send-test.true c.send-item.is in
    subst (λ (t : List ℕ). Adds g.K.Sink.held g.K.Sink.faults c.args.sink.now c.put_send.new.sink c.args.text.now c.put_send.new.text t) (sym next)
    (c.loop-send.invariant ▸ c.put_send.ensures)

pub returns : goal.returns
returns g c = grind (arith, common_steps)
