use Rattle.std.proofs.Common.{List, ℕ, sym, ap, ◌∙◌, subst, arith}
use Rattle.std.proofs.lemmas.Grind.{common_steps}
use Rattle.bus_outer.specs.Texts.{Adds}
use Rattle.bus_outer.proofs.TextLaws.{◌▸◌}
use Rattle.bus_table.specs.declared.line.TakeLine.{TakeLine}
use Rattle.bus_takes.specs.Takes.{of_listener, taker_text}
use Rattle.bus_strings.proofs.ListLaws.{flat_map-take}
use Rattle.bus_takes.proofs.takes.put_of_listeners.Goals as goal

pub loop-listener-preserved : goal.loop-listener-preserved
loop-listener-preserved g c =
    let next = flat_map-take (of_listener c.args.table.now) c.args.listeners.now c.loop-listener.listener-index c.listener-item.result c.loop-listener-test.true c.listener-item.is in
    subst (λ (t : List ℕ). Adds g.K.Sink.held g.K.Sink.faults c.args.sink.now c.put_lines.new.sink c.args.text.now c.put_lines.new.text t) (sym next)
    (c.loop-listener.invariant ▸ subst (λ (t : List ℕ). Adds g.K.Sink.held g.K.Sink.faults c.loop-listener.sink c.put_lines.new.sink c.loop-listener.text c.put_lines.new.text t) (ap (λ (n : ℕ). taker_text c.args.table.now (record { number = n; takes = c.takes.result.now })) c.number.ensures.value ∙ ap (λ (ts : List TakeLine). taker_text c.args.table.now (record { number = c.listener-item.result.number; takes = ts })) c.takes.ensures.value) c.put_lines.ensures)

pub returns : goal.returns
returns g c = grind (arith, common_steps)
