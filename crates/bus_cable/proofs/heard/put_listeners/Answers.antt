use Rattle.std.proofs.Common.{◌∙◌, ◌++◌, ℕ, List, take, ap, sym, subst}
use Rattle.std.specs.List.{flat_map}
use Rattle.bus_outer.specs.Texts.{Adds}
use Rattle.bus_outer.proofs.TextLaws.{◌▸◌}
use Rattle.bus_strings.proofs.ListLaws.{flat_map-take}
use Rattle.bus_medium.specs.Delays.{cable}
use Rattle.bus_cable.specs.HeardTexts.{terminal_text}
use Rattle.bus_cable.specs.inside.Ranks.{listener_heard}
use Rattle.bus_propagation.specs.Numbered.{numbered}
use Rattle.bus_cable.proofs.heard.put_listeners.Goals as goal

pub loop-listener-preserved : goal.loop-listener-preserved
loop-listener-preserved g c =
    let put = listener_heard (cable (numbered c.args.places.now)) c.args.list.now in
    let i = c.loop-listener.listener-index in
    let e =
    ap (λ n. flat_map put (take i c.args.listeners.now) ++ terminal_text (cable (numbered c.args.places.now)) c.args.list.now n) c.number.ensures.value
    ∙ sym (flat_map-take put c.args.listeners.now i c.listener-item.result c.loop-listener-test.true c.listener-item.is) in
    subst (λ (t : List ℕ). Adds g.K.Sink.held g.K.Sink.faults c.args.sink.now c.put_terminal.new.sink c.args.text.now c.put_terminal.new.text t) e
    (c.loop-listener.invariant ▸ c.put_terminal.ensures)
