use Rattle.std.proofs.Common.{◌-◌}
use Rattle.bus_margins.specs.declared.part.Part.TheVariants.{Clocks}
use Rattle.bus_margins.specs.Bearing.{most_part}
use Rattle.bus_margins.proofs.Greatest.{IsAmong}
use Rattle.bus_margins_periodic.specs.inside.Cases.{may_with}
use Rattle.bus_margins_periodic.proofs.bearing.most_clocks.Given as goal

-- the greatest value is among those from `low` to `high`
abbrev pub invariant-loop-low : goal.invariant-loop-low
invariant-loop-low l = IsAmong (may_with l.bounds l.table) (most_part Clocks) l.low l.high

abbrev pub decreases-loop-low : goal.decreases-loop-low
decreases-loop-low l = l.high - l.low
