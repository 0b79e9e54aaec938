use Rattle.std.proofs.Common.{map}
use Rattle.serde_json.specs.View.{view}
use Rattle.bus_facts.specs.Takes.{take_value}
use Rattle.bus_facts.proofs.Onto.{each_onto}
use Rattle.bus_facts.proofs.takes.add_takes.Goals as goal

pub loop-take-preserved : goal.loop-take-preserved
loop-take-preserved c =
    each_onto (take_value c.args.table.now c.args.number) (map view c.args.values.now.items) c.args.takes.now c.loop-take.take-index c.take-item.result
    c.in_ok-take_value.field-0 c.loop-take.values.items c.push.new.self.items c.loop-take-test.true c.take-item.is c.in_ok-take_value.ensures
    c.in_ok-push.ensures.items c.loop-take.invariant
