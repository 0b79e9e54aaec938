use Rattle.std.proofs.Common.{◌≡◌, ◌+◌, ◌*◌, ◌^◌, ◌≤◌, [], get_or, take}
use Rattle.std.specs.List.{sum_by}
use Rattle.bus_strings.specs.Messages.{bits}
use Rattle.bus_table.specs.Tables.{Sender}
use Rattle.bus_schedule.specs.Even.{messages_of}
use Rattle.bus_schedule.proofs.end.round_length.Given as goal

-- the turns so far, with room for more than there can be
abbrev pub invariant-loop-k : goal.invariant-loop-k
invariant-loop-k l = record {
  sum : l.sum ≡ sum_by (λ (s : Sender). s.tg + bits (get_or (messages_of l.hands s.number) l.round [])) (take l.k l.sender-items);
  most : l.sum ≤ 2 ^ 33 * l.k;
}
