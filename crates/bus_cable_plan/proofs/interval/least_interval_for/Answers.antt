use Rattle.std.proofs.Common.{ap, ◌∙◌}
use Rattle.bus_cable_plan.specs.Plans.{least_in_order}
use Rattle.bus_cable_plan.proofs.interval.least_interval_for.Goals as goal

pub returns : goal.returns
returns c = c.least_in_order.ensures.value ∙ ap (least_in_order c.args.d) c.in_ok-ordered.ensures
