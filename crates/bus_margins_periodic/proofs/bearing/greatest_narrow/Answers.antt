use Rattle.std.proofs.Common.{arith, ◌<◌, ◌≤◌, ◌-◌, ◌/◌, sym, ◌∙◌}
use Rattle.bus_margins.specs.Bearing.{part_of, most_part}
use Rattle.bus_margins.proofs.Greatest.{IsAmong, TakesLess, lower}
use Rattle.bus_margins_periodic.specs.Bearing.{keeps}
use Rattle.bus_margins_periodic.proofs.BearLemmas.{all_kept, among_greatest, kept_less}
use Rattle.bus_margins_periodic.proofs.bearing.greatest_narrow.Goals as goal

pub loop-low-init : goal.loop-low-init
loop-low-init c =
    let within : part_of c.args.bounds c.args.part ≤ most_part c.args.part = rw (← c.part_of-low.ensures.value) c.part_of-low.ensures.most in
    let all : IsAmong (keeps c.args.bounds c.args.table.now c.args.level c.args.part) (most_part c.args.part) (part_of c.args.bounds c.args.part) (most_part c.args.part) =
    all_kept c.args.bounds c.args.table.now c.args.level c.args.part within c.requires.level in
    rw (c.part_of-low.ensures.value, c.most_part-high.ensures.value) all

pub loop-low-preserved : goal.loop-low-preserved
loop-low-preserved c =
    let low : c.loop-low.low < c.loop-low.high - (c.loop-low.high - c.loop-low.low) / 2 = omega (arith, c.loop-low-test.true) in
    let high : c.loop-low.high - (c.loop-low.high - c.loop-low.low) / 2 ≤ c.loop-low.high = omega arith in
    let less : TakesLess (keeps c.args.bounds c.args.table.now c.args.level c.args.part) (most_part c.args.part) =
    kept_less c.args.bounds c.args.table.now c.senders-valid.ensures.valid c.delay-ranges.ensures.ranges c.args.level c.args.part c.requires.part in
    lower (keeps c.args.bounds c.args.table.now c.args.level c.args.part) (most_part c.args.part) c.loop-low.low c.loop-low.high _ less c.loop-low.invariant low high
    (sym c.keeps.ensures ∙ c.if-keeps.false)

pub returns : goal.returns
returns c =
    among_greatest (keeps c.args.bounds c.args.table.now c.args.level c.args.part) (most_part c.args.part) c.loop-low.low c.loop-low.high c.loop-low.invariant
    (omega (arith, c.loop-low-test.false))
