use Rattle.std.proofs.Common.{◌≡◌, ◌≤◌, drop}
use Rattle.bus_table.specs.Turns.{turn_order}
use Rattle.bus_schedule.specs.Uneven.{differing}
use Rattle.bus_schedule.proofs.uneven.find_uneven.Given as goal

-- none of the senders so far differs from the first
abbrev pub invariant-loop-k : goal.invariant-loop-k
invariant-loop-k l = (1 ≤ l.k) × (differing l.hands l.one (drop l.k (turn_order l.table)) ≡ differing l.hands l.one (drop 1 (turn_order l.table)))
