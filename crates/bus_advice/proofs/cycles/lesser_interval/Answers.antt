use Rattle.std.proofs.Common.{arith, ◌≡◌, ◌-◌}
use Rattle.bus_advice.proofs.CycleChange.{lesser_some, lesser_none}
use Rattle.bus_advice.proofs.cycles.lesser_interval.Goals as goal

pub returns-then-ti-ge-LEAST_TI : goal.returns-then-ti-ge-LEAST_TI
returns-then-ti-ge-LEAST_TI c =
    let ti = c.ti.ensures.value in
    let less = c.saturating_sub-ti.ensures in
    let value : c.saturating_sub-ti.result ≡ c.args.table.now.ti - c.args.deficit = omega arith in
    lesser_some c.args.table.now c.args.deficit c.saturating_sub-ti.result c.ti.ensures.valid c.requires.short value
    (omega (arith, c.if-ti-ge-LEAST_TI.true))

pub returns-else-ti-ge-LEAST_TI : goal.returns-else-ti-ge-LEAST_TI
returns-else-ti-ge-LEAST_TI c =
    let ti = c.ti.ensures.value in
    let less = c.saturating_sub-ti.ensures in
    let value : c.saturating_sub-ti.result ≡ c.args.table.now.ti - c.args.deficit = omega arith in
    lesser_none c.args.table.now c.args.deficit c.saturating_sub-ti.result c.requires.short value
    (omega (arith, c.if-ti-ge-LEAST_TI.false))
