use Rattle.std.proofs.Common.{◌≡◌, map, take}
use Rattle.arrayvec.specs.ArrayVec.{array_vec_len}
use Rattle.bus_dump.specs.inside.TimerWalks.{settled}
use Rattle.bus_dump.proofs.all_timers.settle_all.Given as goal

abbrev pub invariant-loop-k : goal.invariant-loop-k
invariant-loop-k l = record {
  items : l.all_timers.items ≡ map (settled l.table) (take l.k l.table.senders);
  count : array_vec_len l.all_timers ≡ l.k;
}
