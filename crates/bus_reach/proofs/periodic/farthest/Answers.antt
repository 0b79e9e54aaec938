use Rattle.std.proofs.Common.{◌≤◌, arith, ◌∙◌}
use Rattle.bus_table.proofs.ValidLaws.{valid_facts}
use Rattle.bus_reach.proofs.LimitLemmas.{far_small}
use Rattle.bus_reach.proofs.periodic.farthest.Goals as goal

pub overflow_mul-result-2 : goal.overflow_mul-result-2
overflow_mul-result-2 c =
    omega (arith, far_small c.args.table.now c.senders.result.now c.from-2.result c.ti.ensures.valid c.senders.ensures.value (c.from-2.ensures ∙ c.sg.ensures.value))

pub overflow_add-result : goal.overflow_add-result
overflow_add-result c =
    let ti : c.args.table.now.ti ≤ 128000 = (valid_facts c.args.table.now c.ti.ensures.valid).ti_most in
    omega (
      arith,
      c.from.ensures,
      c.ti.ensures.value,
      far_small c.args.table.now c.senders.result.now c.from-2.result c.ti.ensures.valid c.senders.ensures.value (c.from-2.ensures ∙ c.sg.ensures.value),
    )

pub returns-clause-bound : goal.returns-clause-bound
returns-clause-bound c =
    let ti : c.args.table.now.ti ≤ 128000 = (valid_facts c.args.table.now c.ti.ensures.valid).ti_most in
    omega (
      arith,
      c.from.ensures,
      c.ti.ensures.value,
      far_small c.args.table.now c.senders.result.now c.from-2.result c.ti.ensures.valid c.senders.ensures.value (c.from-2.ensures ∙ c.sg.ensures.value),
    )
