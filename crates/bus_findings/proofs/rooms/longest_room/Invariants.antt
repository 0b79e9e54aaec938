use Rattle.std.specs.Prelude.{max}
use Rattle.std.proofs.Common.{◌≡◌, ◌<◌, ◌^◌, drop}
use Rattle.bus_recording.specs.Walk as walk
use Rattle.bus_findings.specs.Recorded.{recorded, reach}
use Rattle.bus_findings.proofs.rooms.longest_room.Given as goal

-- what is longest so far, and what is still to be walked, make the whole
abbrev pub invariant-loop-x : goal.invariant-loop-x
invariant-loop-x l = record {
  value : walk.longest_room (reach l.bounds) l.gap l.start l.fn.from (recorded l.bounds l.between)
      ≡ max l.longest (walk.longest_room (reach l.bounds) l.gap l.start l.end (recorded l.bounds (drop l.x-index l.between)));
  bound : l.end < 2 ^ 41;
}
