use Rattle.std.proofs.Common.{arith, ap, length}
use Rattle.bus_reach.proofs.LimitLemmas.{sync_step, sync_end}
use Rattle.bus_reach.proofs.limiting.add_syncs.Goals as goal

pub loop-k-preserved : goal.loop-k-preserved
loop-k-preserved c =
    sync_step c.args.table.now c.loop-k.k c.loop-k.limits.items c.push.new.self.items _ c.sync_limit.result c.sync_limit.ensures
    c.in_ok-push.ensures.items c.loop-k.invariant

pub returns : goal.returns
returns c =
    sync_end c.args.table.now c.loop-k.k c.loop-k.limits.items _ (omega (arith, c.loop-k-test.false, ap length c.senders-k-end.ensures.value)) c.loop-k.invariant
