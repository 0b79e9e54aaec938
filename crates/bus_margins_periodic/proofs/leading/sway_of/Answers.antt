use Rattle.std.proofs.Common.{◌≡◌, ◌-◌, suc, length, arith, ap, ◌∙◌}
use Rattle.bus_table.specs.Turns.{turn_order}
use Rattle.bus_drift.specs.Leading.{least_offset}
use Rattle.bus_drift.specs.Pace.{greatest_below}
use Rattle.bus_drift.specs.Turns.{fastest}
use Rattle.bus_margins.specs.Buses.{bus_of}
use Rattle.bus_margins_periodic.specs.Buses.{soon_of, late_of}
use Rattle.bus_margins_periodic.proofs.leading.sway_of.Goals as goal

pub returns-clause-value : goal.returns-clause-value
returns-clause-value c =
    let end : suc c.loop-k.k ≡ length (turn_order c.args.table.now) = omega (arith, c.loop-k-test.false, c.loop-k.invariant.6, c.count-k-end.ensures.value) in
    c.loop-k.invariant.4
    ∙ ap (greatest_below (λ k. least_offset (bus_of c.args.bounds c.args.table.now) (soon_of c.args.bounds c.args.table.now) (late_of c.args.bounds c.args.table.now) k
    - fastest (bus_of c.args.bounds c.args.table.now) 0 k)) end
