use Rattle.std.proofs.Common.{◌≡◌, map, take}
use Rattle.arrayvec.specs.ArrayVec.{array_vec_len}
use Rattle.bus_dump.specs.inside.SenderTimers.{tells_at}
use Rattle.bus_dump.proofs.all_timers.tell_all.Given as goal

abbrev pub invariant-loop-sender_timers : goal.invariant-loop-sender_timers
invariant-loop-sender_timers l = record {
  items : l.timers.items ≡ map (tells_at l.place) (take l.sender_timers-index l.all_timers);
  count : array_vec_len l.timers ≡ l.sender_timers-index;
}
