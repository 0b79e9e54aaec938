use Rattle.std.proofs.Common.{◌≡◌, ◌++◌, drop}
use Rattle.bus_table.specs.Turns.{turn_order}
use Rattle.bus_table.specs.declared.mode.Mode.TheVariants.{Aperiodic}
use Rattle.bus_reach.specs.Limits.{next_limits, limits_in}
use Rattle.bus_reach.proofs.limiting.aperiodic_limits.Given as goal

-- with those of the senders to come these are all
abbrev pub invariant-loop-k : goal.invariant-loop-k
invariant-loop-k l = l.limits.items ++ next_limits l.table (drop l.k (turn_order l.table)) ≡ limits_in Aperiodic l.table
