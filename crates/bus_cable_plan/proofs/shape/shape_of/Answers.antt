use Rattle.std.proofs.Common.{arith, ap, ◌∙◌}
use Rattle.bus_table.proofs.ValidLaws.{valid_facts}
use Rattle.bus_cable_plan.specs.Shapes.{greatest_tg, second_tg}
use Rattle.bus_cable_plan.proofs.Steps.{shape_told, tops_small}
use Rattle.bus_cable_plan.proofs.shape.shape_of.Goals as goal

pub round-requires-clause-first : goal.round-requires-clause-first
round-requires-clause-first c =
    let small = (tops_small c.args.table.now (valid_facts c.args.table.now c.senders.ensures.valid) c.senders.result.now c.senders.ensures.value).0 in
    let told = c.greatest_gaps-first.ensures.first in
    omega (arith, small, told)

pub round-requires-clause-second : goal.round-requires-clause-second
round-requires-clause-second c =
    let small = (tops_small c.args.table.now (valid_facts c.args.table.now c.senders.ensures.valid) c.senders.result.now c.senders.ensures.value).1 in
    let told = c.greatest_gaps-first.ensures.second in
    omega (arith, small, told)

pub returns-clause-value : goal.returns-clause-value
returns-clause-value c =
    shape_told c.args.d c.args.table.now c.sg-sg.result c.greatest_gaps-first.result.0 c.greatest_gaps-first.result.1 c.greatest_pair-pair.result
    c.own.result c.neighbours.result c.lesser_shape-one.result c.apart.result c.lesser_shape-two.result c.round.result c.lesser_shape.result
    c.sg-sg.ensures.value (c.greatest_gaps-first.ensures.first ∙ ap greatest_tg c.senders.ensures.value)
    (c.greatest_gaps-first.ensures.second ∙ ap second_tg c.senders.ensures.value) c.greatest_pair-pair.ensures.value c.own.ensures.value
    c.neighbours.ensures.value c.lesser_shape-one.ensures.value c.apart.ensures.value c.lesser_shape-two.ensures.value c.round.ensures.value
    c.lesser_shape.ensures.value
