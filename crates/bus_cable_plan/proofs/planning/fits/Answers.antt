use Rattle.std.proofs.Common.{ap, sym, ◌∙◌}
use Rattle.std.specs.Prelude.{nat_le, ◌||◌}
use Rattle.bus_table.specs.Tables.{Table}
use Rattle.bus_cable_plan.specs.Plans.{least_in_order, least_interval_for}
use Rattle.bus_cable_plan.proofs.planning.fits.Goals as goal

pub returns-else-fits_in_order : goal.returns-else-fits_in_order
returns-else-fits_in_order c =
    c.fits_in_order-else-fits_in_order.ensures
    ∙ ap (λ (t : Table). nat_le (least_in_order c.args.d t) t.ti) c.requires.ordered
    ∙ sym (ap (λ b. b || nat_le (least_interval_for c.args.d c.args.table.now) c.args.table.now.ti)
    (sym c.fits_in_order.ensures ∙ c.if-fits_in_order.false))
