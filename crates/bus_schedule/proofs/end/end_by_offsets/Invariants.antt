use Rattle.std.proofs.Common.{◌≡◌, ◌≤◌, ◌*◌, ◌^◌}
use Rattle.bus_strings.specs.Marking.{greatest_end}
use Rattle.bus_table.specs.Turns.{turn_order}
use Rattle.bus_schedule.specs.Closed.{offset_schedule}
use Rattle.bus_schedule.specs.Even.{messages_of}
use Rattle.bus_schedule.proofs.end.end_by_offsets.Given as goal

abbrev pub invariant-loop-round : goal.invariant-loop-round
invariant-loop-round l = record {
  base : l.base ≡ l.round * l.table.ti;
  end : l.end ≡ greatest_end (offset_schedule (messages_of l.hands) l.table.ti (turn_order l.table) l.round);
  most : l.base ≤ l.round * 2 ^ 32;
}
