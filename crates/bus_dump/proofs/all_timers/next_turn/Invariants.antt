use Rattle.std.proofs.Common.{◌<◌, ◌≤◌, take}
use Rattle.std.specs.List.{AllByRecursion}
use Rattle.bus_dump.specs.inside.TimerWalks.{timer_turn}
use Rattle.bus_dump.proofs.all_timers.next_turn.Given as goal

abbrev pub invariant-loop-sender_timers : goal.invariant-loop-sender_timers
invariant-loop-sender_timers l = record {
  later : l.place < l.next;
  most : l.next ≤ l.limit;
  least : AllByRecursion (λ sender_timers. l.next ≤ timer_turn l.t l.live l.place l.limit l.carrier sender_timers) (take l.sender_timers-index l.all_timers);
}
