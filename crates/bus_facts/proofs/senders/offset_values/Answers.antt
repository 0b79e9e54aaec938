use Rattle.std.proofs.Common.{arith, ap, length}
use Rattle.bus_regime.specs.Gaps.{gaps}
use Rattle.bus_regime.proofs.GapPlaces.{length-gaps}
use Rattle.bus_facts.specs.Senders.{offset_value}
use Rattle.bus_facts.proofs.Pushing.{pushed_at, pushed_all}
use Rattle.bus_facts.proofs.senders.offset_values.Goals as goal

pub loop-k-preserved : goal.loop-k-preserved
loop-k-preserved c =
    pushed_at (offset_value c.args.table.now c.args.pace) (gaps c.args.table.now) c.loop-k.k c.gap_at-gap.result c.in_ok-offset_value.field-0
    c.loop-k.values.items c.push.new.self.items c.gap_at-gap.ensures c.in_ok-offset_value.ensures c.in_ok-push.ensures.items c.loop-k.invariant

pub returns : goal.returns
returns c =
    pushed_all (offset_value c.args.table.now c.args.pace) (gaps c.args.table.now) c.loop-k.k c.loop-k.values.items
    (omega (arith, c.loop-k-test.false, length-gaps c.args.table.now, ap length c.senders-k-end.ensures.value)) c.loop-k.invariant
