use Rattle.std.proofs.Common.{arith, sym, ap, ◌∙◌, ◌≡◌, length, cond}
use Rattle.bus_regime.specs.Gaps.{gaps, has_width}
use Rattle.bus_regime.specs.Verdicts as verdicts
use Rattle.bus_regime.proofs.GapPlaces.{step_found, step_next, step_end, length-gaps}
use Rattle.bus_regime.proofs.Counting.{wide_more, few_more, wide_whole}
use Rattle.bus_regime.proofs.periodic.wide_gaps.Goals as goal

pub returns-then-is_small-clause-small : goal.returns-then-is_small-clause-small
returns-then-is_small-clause-small c =
    step_found verdicts.is_small (gaps c.args.table.now) c.loop-k.k c.gap_at-gap.result c.gap_at-gap.ensures (sym c.is_small.ensures ∙ c.if-is_small.true)
    c.loop-k.invariant.none

pub loop-k-preserved : goal.loop-k-preserved
loop-k-preserved c =
    let one : c.one_if-wide.result ≡ cond (has_width c.args.table.now.sg c.gap_at-gap.result) 1 0 =
    c.one_if-wide.ensures ∙ ap (λ b. cond b 1 0) c.has_width.ensures ∙ ap (λ n. cond (has_width n c.gap_at-gap.result) 1 0) c.sg.ensures.value in
    record {
      none = step_next verdicts.is_small (gaps c.args.table.now) c.loop-k.k c.gap_at-gap.result c.gap_at-gap.ensures
          (sym c.is_small.ensures ∙ c.if-is_small.false) c.loop-k.invariant.none;
      wide = wide_more c.args.table.now.sg (gaps c.args.table.now) c.loop-k.k c.loop-k.wide c.one_if-wide.result c.gap_at-gap.result c.gap_at-gap.ensures
          one c.loop-k.invariant.wide;
      few = few_more c.args.table.now.sg c.loop-k.wide c.one_if-wide.result c.loop-k.k c.gap_at-gap.result c.loop-k.invariant.few one;
    }

pub returns-clause-none : goal.returns-clause-none
returns-clause-none c =
    let same : length c.senders-k-end.result.now ≡ length c.args.table.now.senders = ap length c.senders-k-end.ensures.value in
    step_end verdicts.is_small (gaps c.args.table.now) c.loop-k.k c.loop-k.invariant.none (omega (arith, same, length-gaps c.args.table.now, c.loop-k-test.false))

pub returns-clause-wide : goal.returns-clause-wide
returns-clause-wide c =
    let same : length c.senders-k-end.result.now ≡ length c.args.table.now.senders = ap length c.senders-k-end.ensures.value in
    wide_whole c.args.table.now.sg (gaps c.args.table.now) c.loop-k.k c.loop-k.wide (omega (arith, same, length-gaps c.args.table.now, c.loop-k-test.false)) c.loop-k.invariant.wide
