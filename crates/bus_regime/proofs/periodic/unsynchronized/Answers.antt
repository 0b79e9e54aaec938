use Rattle.std.proofs.Common.{arith, sym, ap, ◌∙◌, ◌≡◌, length}
use Rattle.bus_table.proofs.TurnLaws.{at_in}
use Rattle.bus_regime.specs.Gaps.{gaps}
use Rattle.bus_regime.specs.Verdicts as verdicts
use Rattle.bus_regime.proofs.GapPlaces.{step_found, step_next, step_end, length-gaps}
use Rattle.bus_regime.proofs.periodic.unsynchronized.Goals as goal

pub lacks_sync-requires-clause-among : goal.lacks_sync-requires-clause-among
lacks_sync-requires-clause-among c = at_in (gaps c.args.table.now) c.loop-k.k c.gap_at-gap.result c.gap_at-gap.ensures

pub returns-then-lacks_sync : goal.returns-then-lacks_sync
returns-then-lacks_sync c =
    sym (step_found (verdicts.lacks_sync c.args.table.now.sg (gaps c.args.table.now)) (gaps c.args.table.now) c.loop-k.k c.gap_at-gap.result
    c.gap_at-gap.ensures (sym c.lacks_sync.ensures ∙ c.if-lacks_sync.true) c.loop-k.invariant)

pub loop-k-preserved : goal.loop-k-preserved
loop-k-preserved c =
    step_next (verdicts.lacks_sync c.args.table.now.sg (gaps c.args.table.now)) (gaps c.args.table.now) c.loop-k.k c.gap_at-gap.result
    c.gap_at-gap.ensures (sym c.lacks_sync.ensures ∙ c.if-lacks_sync.false) c.loop-k.invariant

pub returns : goal.returns
returns c =
    let same : length c.senders-k-end.result.now ≡ length c.args.table.now.senders = ap length c.senders-k-end.ensures.value in
    sym (step_end (verdicts.lacks_sync c.args.table.now.sg (gaps c.args.table.now)) (gaps c.args.table.now) c.loop-k.k c.loop-k.invariant
    (omega (arith, same, length-gaps c.args.table.now, c.loop-k-test.false)))
