use Rattle.std.proofs.Common.{arith, ap, ◌∙◌, ◌+◌}
use Rattle.bus_table.proofs.ValidLaws.{valid_facts}
use Rattle.bus_plan.specs.inside.Greatest.{greatest_tg, second_tg}
use Rattle.bus_plan.proofs.Tops.{least_told}
use Rattle.bus_plan.proofs.interval.least_interval.Goals as goal

pub returns : goal.returns
returns c =
    let facts = valid_facts c.args.table.now c.senders.ensures.valid in
    let first = c.greatest_gaps-first.ensures.first ∙ ap greatest_tg c.senders.ensures.value in
    let second = c.greatest_gaps-first.ensures.second ∙ ap second_tg c.senders.ensures.value in
    least_told c.args.table.now facts c.turns.result c.sync_time.result c.from.result
    (c.from-2.result + c.from-3.result) c.greatest_gaps-first.result.0 c.greatest_gaps-first.result.1
    c.turns.ensures.value c.sync_time.ensures
    (c.from.ensures ∙ c.sg.ensures.value) (omega (arith, c.from-2.ensures, c.from-3.ensures)) first second
