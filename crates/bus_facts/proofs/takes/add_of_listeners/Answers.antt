use Rattle.std.proofs.Common.{ℕ, List, map, ap, ◌∙◌}
use Rattle.serde_json.specs.View.{view}
use Rattle.bus_table.specs.declared.line.TakeLine.{TakeLine}
use Rattle.bus_table.specs.Tables.{Listener}
use Rattle.bus_filter.specs.Received.{listener_taker}
use Rattle.bus_facts.specs.Takes.{take_value, taker_values}
use Rattle.bus_facts.proofs.Onto.{some_onto}
use Rattle.bus_facts.proofs.takes.add_of_listeners.Goals as goal

pub loop-listener-preserved : goal.loop-listener-preserved
loop-listener-preserved c =
    let table = c.args.table.now in
    let item = c.listener-item.result in
    some_onto (λ (listener : Listener). taker_values table (listener_taker listener)) (map view c.args.values.now.items) c.args.listeners.now c.loop-listener.listener-index item
    (map (take_value table c.number.result) c.takes.result.now) (map view c.loop-listener.values.items) (map view c.add_takes.new.values.items)
    c.loop-listener-test.true c.listener-item.is
    (ap (λ (n : ℕ). map (take_value table n) c.takes.result.now) c.number.ensures.value
    ∙ ap (λ (ts : List TakeLine). map (take_value table item.number) ts) c.takes.ensures.value)
    c.in_ok-add_takes.ensures c.loop-listener.invariant
