use Rattle.std.proofs.Common.{◌-◌}
use Rattle.bus_margins.specs.Bearing.{keeps, most_part}
use Rattle.bus_margins.proofs.Greatest.{IsAmong}
use Rattle.bus_margins.proofs.bearing.greatest_narrow.Given as goal

-- the greatest value is among those from `low` to `high`
abbrev pub invariant-loop-low : goal.invariant-loop-low
invariant-loop-low l = IsAmong (keeps l.bounds l.table l.level l.part) (most_part l.part) l.low l.high

abbrev pub decreases-loop-low : goal.decreases-loop-low
decreases-loop-low l = l.high - l.low
