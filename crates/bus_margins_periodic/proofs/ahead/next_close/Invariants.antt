use Rattle.std.proofs.Common.{◌≡◌, ℕ, ◌<◌, false}
use Rattle.bus_margins.specs.Buses.{bus_of}
use Rattle.bus_margins_periodic.specs.Rooms.{is_close}
use Rattle.bus_margins_periodic.proofs.ahead.next_close.Given as goal

-- none of those so far is close
abbrev pub invariant-loop-due : goal.invariant-loop-due
invariant-loop-due l = (k : ℕ) → l.held < k → k < l.due → is_close (bus_of l.bounds l.table) l.held k ≡ false
