use Rattle.std.proofs.Common.{ap, sym, ◌∙◌, cond}
use Rattle.bus_cable_plan.specs.Plans.{turns_for, least_in_order, least_interval_for}
use Rattle.bus_cable_plan.proofs.planning.known_least.Goals as goal

pub returns-then-is_known : goal.returns-then-is_known
returns-then-is_known c =
    c.least_in_order.ensures.value ∙ ap (least_in_order c.args.d) c.requires.ordered
    ∙ sym (ap (λ b. cond b (least_interval_for c.args.d c.args.table.now) (turns_for c.args.d c.args.table.now))
    (sym c.is_known.ensures ∙ c.if-is_known.true))
