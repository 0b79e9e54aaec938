use Rattle.std.proofs.Common.{◌∙◌, ◌++◌, ℕ, List, take, ap, sym, subst}
use Rattle.std.specs.List.{flat_map}
use Rattle.bus_outer.specs.Texts.{Adds}
use Rattle.bus_outer.proofs.TextLaws.{◌▸◌}
use Rattle.bus_strings.proofs.ListLaws.{flat_map-take}
use Rattle.bus_medium.specs.Delays.{cable}
use Rattle.bus_cable.specs.HeardTexts.{terminal_text}
use Rattle.bus_cable.specs.inside.Ranks.{sender_heard}
use Rattle.bus_propagation.specs.Numbered.{numbered}
use Rattle.bus_cable.proofs.heard.put_senders.Goals as goal

pub loop-sender-preserved : goal.loop-sender-preserved
loop-sender-preserved g c =
    let put = sender_heard (cable (numbered c.args.places.now)) c.args.list.now in
    let i = c.loop-sender.sender-index in
    let e =
    ap (λ n. flat_map put (take i c.args.senders.now) ++ terminal_text (cable (numbered c.args.places.now)) c.args.list.now n) c.number.ensures.value
    ∙ sym (flat_map-take put c.args.senders.now i c.sender-item.result c.loop-sender-test.true c.sender-item.is) in
    subst (λ (t : List ℕ). Adds g.K.Sink.held g.K.Sink.faults c.args.sink.now c.put_terminal.new.sink c.args.text.now c.put_terminal.new.text t) e
    (c.loop-sender.invariant ▸ c.put_terminal.ensures)
