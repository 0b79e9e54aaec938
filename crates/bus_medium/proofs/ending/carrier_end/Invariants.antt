use Rattle.std.proofs.Common.{◌≡◌, ℕ, ◌<◌, ◌≤◌, false}
use Rattle.bus_strings.specs.Transmissions.{carrier}
use Rattle.bus_medium.proofs.ending.carrier_end.Given as goal

abbrev pub invariant-loop-end : goal.invariant-loop-end
invariant-loop-end l = record {
  low : l.start < l.end;
  high : l.end ≤ l.most;
  quiet : (u : ℕ) → l.end ≤ u → u < l.most → carrier l.list u ≡ false;
}

abbrev pub decreases-loop-end : goal.decreases-loop-end
decreases-loop-end l = l.end
