use Rattle.std.proofs.Common.{◌≡◌, ◌*◌, ◌^◌, ◌≤◌}
use Rattle.bus_table.specs.Turns.{turn_order}
use Rattle.bus_strings.specs.Marking.{greatest_end}
use Rattle.bus_schedule.specs.Even.{messages_of}
use Rattle.bus_schedule.specs.Closed.{origin, gap_schedule}
use Rattle.bus_schedule.proofs.end.end_by_gaps.Given as goal

abbrev pub invariant-loop-round : goal.invariant-loop-round
invariant-loop-round l = record {
  from : l.from ≡ origin (messages_of l.hands) l.table.sg (λ round. turn_order l.table) l.round;
  end : l.end ≡ greatest_end (gap_schedule (messages_of l.hands) l.table.sg (λ round. turn_order l.table) l.round);
  most : l.from ≤ l.round * 2 ^ 42;
}
