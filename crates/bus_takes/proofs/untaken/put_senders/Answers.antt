use Rattle.std.proofs.Common.{List, ℕ, sym, ap, ◌∙◌, subst, arith}
use Rattle.std.proofs.lemmas.Grind.{common_steps}
use Rattle.bus_outer.specs.Texts.{Adds}
use Rattle.bus_outer.proofs.TextLaws.{◌▸◌}
use Rattle.bus_table.specs.declared.line.SendLine.{SendLine}
use Rattle.std.specs.List.{flat_map}
use Rattle.bus_takes.specs.Takes.{send_text, sends_text}
use Rattle.bus_strings.proofs.ListLaws.{flat_map-take}
use Rattle.bus_takes.proofs.untaken.put_senders.Goals as goal

pub loop-sender-preserved : goal.loop-sender-preserved
loop-sender-preserved g c =
    let next = flat_map-take (sends_text c.args.table.now) c.args.senders.now c.loop-sender.sender-index c.sender-item.result c.loop-sender-test.true c.sender-item.is in
    subst (λ (t : List ℕ). Adds g.K.Sink.held g.K.Sink.faults c.args.sink.now c.put_sends.new.sink c.args.text.now c.put_sends.new.text t) (sym next)
    (c.loop-sender.invariant ▸ subst (λ (t : List ℕ). Adds g.K.Sink.held g.K.Sink.faults c.loop-sender.sink c.put_sends.new.sink c.loop-sender.text c.put_sends.new.text t) (ap (λ (n : ℕ). flat_map (send_text c.args.table.now n) c.sends.result.now) c.number.ensures.value ∙ ap (λ (ss : List SendLine). flat_map (send_text c.args.table.now c.sender-item.result.number) ss) c.sends.ensures.value) c.put_sends.ensures)

pub returns : goal.returns
returns g c = grind (arith, common_steps)
