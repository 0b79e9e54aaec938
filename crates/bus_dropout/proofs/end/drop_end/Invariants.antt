use Rattle.std.proofs.Common.{◌≡◌, ◌*◌, ◌^◌, ◌≤◌}
use Rattle.bus_strings.specs.Marking.{greatest_end}
use Rattle.bus_schedule.specs.Closed.{origin}
use Rattle.bus_schedule.specs.Even.{messages_of}
use Rattle.bus_schedule.specs.Live.{live, live_rounds}
use Rattle.bus_dropout.proofs.end.drop_end.Given as goal

abbrev pub invariant-loop-round : goal.invariant-loop-round
invariant-loop-round l = record {
  from : l.from ≡ origin (messages_of l.hands) l.table.sg (live l.table (messages_of l.hands)) l.round;
  end : l.end ≡ greatest_end (live_rounds l.table (messages_of l.hands) l.round);
  most : l.from ≤ l.round * 2 ^ 42;
}
