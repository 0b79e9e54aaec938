use Rattle.std.proofs.Common.{◌≡◌, ◌≤◌, ◌*◌, ◌^◌, take}
use Rattle.std.specs.List.{sum_by}
use Rattle.bus_filter.specs.inside.Putting.{listener_count}
use Rattle.bus_filter.proofs.counting.count_listeners.Given as goal

-- those so far are counted
abbrev pub invariant-loop-listener : goal.invariant-loop-listener
invariant-loop-listener l = record {
  counted : l.lines ≡ sum_by (listener_count l.list) (take l.listener-index l.listeners);
  bound : l.lines ≤ 2 ^ 75 * l.listener-index;
}
