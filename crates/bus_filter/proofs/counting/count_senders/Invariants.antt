use Rattle.std.proofs.Common.{◌≡◌, ◌≤◌, ◌*◌, ◌^◌, take}
use Rattle.std.specs.List.{sum_by}
use Rattle.bus_filter.specs.inside.Putting.{sender_count}
use Rattle.bus_filter.proofs.counting.count_senders.Given as goal

-- those so far are counted
abbrev pub invariant-loop-sender : goal.invariant-loop-sender
invariant-loop-sender l = record {
  counted : l.lines ≡ sum_by (sender_count l.list) (take l.sender-index l.senders);
  bound : l.lines ≤ 2 ^ 75 * l.sender-index;
}
