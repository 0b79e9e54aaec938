use Rattle.std.proofs.Common.{take}
use Rattle.std.specs.List.{AllByRecursion}
use Rattle.bus_strings.specs.Transmissions.{IsTransmission}
use Rattle.bus_cable.proofs.hearing.look_at.Given as goal

abbrev pub invariant-loop-x : goal.invariant-loop-x
invariant-loop-x l = AllByRecursion IsTransmission (take l.x-index l.list)
