use Rattle.std.proofs.Common.{◌≡◌, true, take}
use Rattle.std.specs.List.{list_all}
use Rattle.bus_table.specs.Ranges.{is_listener}
use Rattle.bus_table.proofs.table.look_at_listeners.Given as goal

abbrev pub invariant-loop-listener : goal.invariant-loop-listener
invariant-loop-listener l = list_all is_listener (take l.listener-index l.listeners) ≡ true
