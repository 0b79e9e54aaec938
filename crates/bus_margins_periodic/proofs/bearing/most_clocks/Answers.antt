use Rattle.std.proofs.Common.{arith, ◌<◌, ◌≤◌, ◌-◌, ◌/◌, sym, ◌∙◌}
use Rattle.bus_margins.specs.declared.part.Part.TheVariants.{Clocks}
use Rattle.bus_margins.specs.Bearing.{most_part}
use Rattle.bus_margins.proofs.Greatest.{IsAmong, TakesLess, all_left, lower}
use Rattle.bus_margins_periodic.specs.inside.Cases.{may_with}
use Rattle.bus_margins_periodic.proofs.BearLemmas.{among_greatest, may_take_less}
use Rattle.bus_margins_periodic.proofs.bearing.most_clocks.Goals as goal

pub loop-low-init : goal.loop-low-init
loop-low-init c =
    let all : IsAmong (may_with c.args.bounds c.args.table.now) (most_part Clocks) c.args.bounds.clocks (most_part Clocks) =
    all_left (may_with c.args.bounds c.args.table.now) (most_part Clocks) c.args.bounds.clocks c.clocks-low.ensures.ranges.clocks c.requires.now in
    rw c.clocks-low.ensures.value all

pub loop-low-preserved : goal.loop-low-preserved
loop-low-preserved c =
    let low : c.loop-low.low < c.loop-low.high - (c.loop-low.high - c.loop-low.low) / 2 = omega (arith, c.loop-low-test.true) in
    let high : c.loop-low.high - (c.loop-low.high - c.loop-low.low) / 2 ≤ c.loop-low.high = omega arith in
    let less : TakesLess (may_with c.args.bounds c.args.table.now) (most_part Clocks) =
    may_take_less c.args.bounds c.args.table.now c.senders-valid.ensures.valid c.clocks-low.ensures.ranges in
    lower (may_with c.args.bounds c.args.table.now) (most_part Clocks) c.loop-low.low c.loop-low.high _ less c.loop-low.invariant low high
    (sym c.may_keep.ensures ∙ c.if-may_keep.false)

pub returns : goal.returns
returns c =
    among_greatest (may_with c.args.bounds c.args.table.now) (most_part Clocks) c.loop-low.low c.loop-low.high c.loop-low.invariant
    (omega (arith, c.loop-low-test.false))
