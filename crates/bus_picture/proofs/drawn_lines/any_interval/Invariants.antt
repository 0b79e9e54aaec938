use Rattle.std.proofs.Common.{◌≡◌, false, take}
use Rattle.bus_picture.specs.Intervals.{last_start}
use Rattle.bus_picture.specs.Kinds.{has_interval_before}
use Rattle.bus_picture.specs.inside.Starting.{IsEarly, any_first}
use Rattle.bus_picture.proofs.drawn_lines.any_interval.Given as goal

abbrev pub invariant-loop-k : goal.invariant-loop-k
invariant-loop-k l = record {
  none : any_first (has_interval_before l.scale l.list l.timings) l.list l.k ≡ false;
  last : l.last ≡ last_start l.timings.terminal (take l.k l.list);
  early : IsEarly l.last;
}
