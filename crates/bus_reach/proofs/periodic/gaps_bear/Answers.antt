use Rattle.std.proofs.Common.{◌≡◌, length, sym, ap, ◌∙◌, arith}
use Rattle.bus_regime.specs.Gaps.{gaps}
use Rattle.bus_reach.proofs.Passes.{lacking_fails, stay_more, all_borne, wide_less}
use Rattle.bus_regime.proofs.GapPlaces.{length-gaps}
use Rattle.bus_reach.proofs.periodic.gaps_bear.Goals as goal

pub returns-then-not-stays : goal.returns-then-not-stays
returns-then-not-stays c =
    lacking_fails c.args.table.now c.args.d (length c.senders-n.result.now) c.loop-k.k c.stays.result (ap length c.senders-n.ensures.value) c.if-n-eq1.false
    (sym c.all_wide.ensures.value ∙ c.if-not-all_wide.false) c.stays.ensures c.if-not-stays.true c.loop-k.invariant

pub loop-k-preserved : goal.loop-k-preserved
loop-k-preserved c =
    stay_more c.args.d c.args.table.now.sg (gaps c.args.table.now) c.loop-k.k c.stays.result c.stays.ensures c.if-not-stays.false c.loop-k.invariant

pub returns : goal.returns
returns c =
    let same : length c.senders-n.result.now ≡ length c.args.table.now.senders = ap length c.senders-n.ensures.value in
    all_borne c.args.table.now c.args.d (length c.senders-n.result.now) c.loop-k.k same c.if-n-eq1.false
    (sym c.all_wide.ensures.value ∙ c.if-not-all_wide.false) (omega (arith, same, length-gaps c.args.table.now, c.loop-k-test.false)) c.loop-k.invariant

pub stays-requires-clause-wide : goal.stays-requires-clause-wide
stays-requires-clause-wide c = wide_less c.args.d (gaps c.args.table.now) (sym c.all_wide.ensures.value ∙ c.if-not-all_wide.false)
