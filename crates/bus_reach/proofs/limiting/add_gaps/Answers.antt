use Rattle.std.proofs.Common.{arith, ap, length}
use Rattle.bus_strings.proofs.MemberLaws.{at_in}
use Rattle.bus_regime.specs.Gaps.{gaps}
use Rattle.bus_reach.proofs.LimitLemmas.{fine, wide_gap, gap_near, gap_step, gap_end}
use Rattle.bus_reach.proofs.limiting.add_gaps.Goals as goal

pub gap_limit-requires-clause-wide : goal.gap_limit-requires-clause-wide
gap_limit-requires-clause-wide c =
    wide_gap c.args.table.now c.gap_at.result
    (fine c.args.table.now c.senders-k-end.ensures.valid c.requires.mode c.requires.accepted c.requires.several).wide
    (at_in (gaps c.args.table.now) c.loop-k.k c.gap_at.result c.gap_at.ensures)

pub gap_limit-requires-clause-most : goal.gap_limit-requires-clause-most
gap_limit-requires-clause-most c =
    gap_near c.args.table.now c.gap_at.result c.senders-k-end.ensures.valid c.requires.mode (at_in (gaps c.args.table.now) c.loop-k.k c.gap_at.result c.gap_at.ensures)

pub loop-k-preserved : goal.loop-k-preserved
loop-k-preserved c =
    gap_step c.args.table.now c.loop-k.k c.gap_at.result c.loop-k.limits.items c.push.new.self.items _ c.gap_limit.result c.gap_at.ensures c.gap_limit.ensures
    c.in_ok-push.ensures.items c.loop-k.invariant

pub returns : goal.returns
returns c =
    gap_end c.args.table.now c.loop-k.k c.loop-k.limits.items _ (omega (arith, c.loop-k-test.false, ap length c.senders-k-end.ensures.value)) c.loop-k.invariant
