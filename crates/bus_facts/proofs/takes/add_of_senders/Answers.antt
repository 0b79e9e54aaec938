use Rattle.std.proofs.Common.{ℕ, List, map, ap, ◌∙◌}
use Rattle.serde_json.specs.View.{view}
use Rattle.bus_table.specs.declared.line.TakeLine.{TakeLine}
use Rattle.bus_table.specs.Tables.{Sender}
use Rattle.bus_filter.specs.Received.{sender_taker}
use Rattle.bus_facts.specs.Takes.{take_value, taker_values}
use Rattle.bus_facts.proofs.Onto.{some_onto}
use Rattle.bus_facts.proofs.takes.add_of_senders.Goals as goal

pub loop-sender-preserved : goal.loop-sender-preserved
loop-sender-preserved c =
    let table = c.args.table.now in
    let item = c.sender-item.result in
    some_onto (λ (sender : Sender). taker_values table (sender_taker sender)) (map view c.args.values.now.items) c.args.senders.now c.loop-sender.sender-index item
    (map (take_value table c.number.result) c.takes.result.now) (map view c.loop-sender.values.items) (map view c.add_takes.new.values.items)
    c.loop-sender-test.true c.sender-item.is
    (ap (λ (n : ℕ). map (take_value table n) c.takes.result.now) c.number.ensures.value
    ∙ ap (λ (ts : List TakeLine). map (take_value table item.number) ts) c.takes.ensures.value)
    c.in_ok-add_takes.ensures c.loop-sender.invariant
