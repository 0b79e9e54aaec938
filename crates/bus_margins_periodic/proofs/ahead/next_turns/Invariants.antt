use Rattle.std.proofs.Common.{◌≡◌, ℕ, ◌<◌, length, get_or}
use Rattle.bus_margins.specs.Buses.{bus_of}
use Rattle.bus_margins_periodic.specs.inside.Ahead.{IsNext}
use Rattle.bus_margins_periodic.proofs.ahead.next_turns.Given as goal

-- those so far are told
abbrev pub invariant-loop-held : goal.invariant-loop-held
invariant-loop-held l = record {
  size : length l.next ≡ 256;
  told : (j : ℕ) → j < l.held → IsNext (bus_of l.bounds l.table) j (get_or l.next j 0);
}
