use Rattle.std.proofs.Common.{◌≡◌, ◌≤◌, ◌^◌, take}
use Rattle.bus_outer.specs.Texts.{Adds}
use Rattle.bus_picture.specs.Intervals.{last_start}
use Rattle.bus_picture.specs.inside.Starting.{Hears, IsEarly, drawn_first}
use Rattle.bus_picture.proofs.starts.put_starts.Given as goal

abbrev pub invariant-loop-k : goal.invariant-loop-k
invariant-loop-k g l = record {
  adds : Adds g.K.Sink.held g.K.Sink.faults l.fn.sink l.sink l.fn.text l.text (drawn_first l.scale l.list l.timings l.k);
  last : l.last ≡ last_start l.timings.terminal (take l.k l.list);
  early : IsEarly l.last;
  hears : Hears l.timings.quiet l.timings.sg l.timings.terminal (take l.k l.list) l.hearing;
  before : l.hearing.before.quiet_from ≤ 2 ^ 42;
  all : l.hearing.all.quiet_from ≤ 2 ^ 42;
}
