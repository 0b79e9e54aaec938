use Rattle.std.specs.Prelude.{Some, None}
use Rattle.std.proofs.Common.{◌≡◌, ℕ, ◌<◌, ◌^◌, drop}
use Rattle.bus_recording.specs.Walk as walk
use Rattle.bus_findings.specs.Recorded.{recorded, reach}
use Rattle.bus_findings.proofs.dues.first_due.Given as goal

-- what is still to be walked tells
abbrev pub invariant-loop-x : goal.invariant-loop-x
invariant-loop-x l = record {
  value : walk.first_due (reach l.bounds) l.sg l.tg l.over l.start l.fn.from None (recorded l.bounds l.between)
      ≡ walk.first_due (reach l.bounds) l.sg l.tg l.over l.start l.end l.elapsed (recorded l.bounds (drop l.x-index l.between));
  bound : l.end < 2 ^ 42;
  low : (e : ℕ) → l.elapsed ≡ Some e → e < 2 ^ 43;
}
