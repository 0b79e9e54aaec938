use Rattle.std.proofs.Common.{arith, ◌≡◌, ◌∙◌}
use Rattle.bus_advice.proofs.StartChange.{start_some, start_none}
use Rattle.bus_advice.proofs.starting.starting_interval.Goals as goal

pub returns-then-ti-from : goal.returns-then-ti-from
returns-then-ti-from c =
    start_some c.args.table.now c.greatest_start-ti.result c.ti-valid.ensures.valid c.requires.aperiodic c.requires.waits c.greatest_start-ti.ensures.exact
    (omega (arith, c.if-ti-from.true, c.from.ensures))

pub returns-else-ti-from : goal.returns-else-ti-from
returns-else-ti-from c =
    start_none c.args.table.now c.greatest_start-ti.result c.greatest_start-ti.ensures.exact (omega (arith, c.if-ti-from.false, c.from.ensures))
