use Rattle.std.proofs.Common.{◌≡◌, arith, sym, ap, ◌∙◌}
use Rattle.bus_margins.specs.declared.part.Part.TheVariants.{Clocks}
use Rattle.bus_margins_periodic.specs.Bearing.{keeps}
use Rattle.bus_margins_periodic.proofs.BearLemmas.{below_may, below_next, found_below, kept_now, now_may}
use Rattle.bus_margins_periodic.proofs.bearing.greatest_clocks.Goals as goal

pub most_clocks-n-requires-clause-now : goal.most_clocks-n-requires-clause-now
most_clocks-n-requires-clause-now c = now_may c.args.bounds c.args.table.now c.args.level c.requires.some c.requires.level

pub loop-n-init : goal.loop-n-init
loop-n-init c =
    below_may c.args.bounds c.args.table.now c.args.level c.most_clocks-n.result c.requires.some c.clocks-now.ensures.ranges.clocks
    (now_may c.args.bounds c.args.table.now c.args.level c.requires.some c.requires.level) c.most_clocks-n.ensures

pub returns-then-keeps : goal.returns-then-keeps
returns-then-keeps c =
    found_below c.args.bounds c.args.table.now c.args.level c.loop-n.n c.loop-n.invariant (sym c.keeps.ensures ∙ c.if-keeps.true)

pub loop-n-preserved : goal.loop-n-preserved
loop-n-preserved c =
    below_next c.args.bounds c.args.table.now c.args.level c.loop-n.n c.loop-n.invariant (omega (arith, c.loop-n-test.true, c.clocks-now.ensures.value))
    (sym c.keeps.ensures ∙ c.if-keeps.false)

pub returns : goal.returns
returns c =
    let now : c.loop-n.n ≡ c.args.bounds.clocks = (let low = c.loop-n.invariant.now in omega (arith, low, c.loop-n-test.false, c.clocks-now.ensures.value)) in
    found_below c.args.bounds c.args.table.now c.args.level c.loop-n.n c.loop-n.invariant
    (ap (keeps c.args.bounds c.args.table.now c.args.level Clocks) now ∙ kept_now c.args.bounds c.args.table.now c.args.level Clocks c.requires.level)
