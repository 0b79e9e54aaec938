use Rattle.bus_medium.specs.inside.Lasting.{PassedMany}
use Rattle.bus_medium.proofs.Stretching.{EachSoFar}
use Rattle.bus_medium.proofs.bit_times.pass_all.Given as goal

abbrev pub invariant-loop-seat : goal.invariant-loop-seat
invariant-loop-seat g l = EachSoFar (PassedMany g.C.Core l.carrier 1) l.initial.seats l.seats l.seat-index
