use Rattle.std.proofs.Common.{◌≡◌, ◌<◌, ◌≤◌, ◌+◌, ◌-◌, ◌++◌, ◌⊎◌}
use Rattle.std.specs.List.{flat_map, range_with_len}
use Rattle.bus_outer.specs.Texts.{Adds}
use Rattle.bus_dump.specs.DumpTexts.{changes_at, first_values}
use Rattle.bus_dump.specs.inside.Layouts.{layout_signals}
use Rattle.bus_dump.specs.Scenes.{scene_at, timed}
use Rattle.bus_dump.specs.inside.Walks.{BeginsFrom}
use Rattle.bus_dump.specs.inside.TimerWalks.{IsTold, IsTimerWalk, Keeping, Lasts, StaysAs, TellsAs, scene_of}
use Rattle.bus_dump.proofs.writing.put_bit_times.Given as goal

-- the walk stands at bit time t, the scene there is known and stays so until then, and all up to t is put
abbrev pub invariant-loop-until : goal.invariant-loop-until
invariant-loop-until g l = record {
  list : l.timer_walk.walk.list.now ≡ l.list;
  breach : l.timer_walk.breach ≡ l.fn.breach;
  timer_walk : IsTimerWalk l.t l.timer_walk;
  since : l.timer_walk.since ≤ l.t;
  lasts : Lasts l.until l.timer_walk;
  keeping : Keeping l.table (timed l.layout.dump l.table) l.timer_walk;
  told : IsTold l.table (timed l.layout.dump l.table) l.timer_walk l.now.timers.items;
  tells : TellsAs l.before l.now;
  now : scene_of l.now ≡ scene_at l.layout.dump l.fn.breach l.table l.list l.t;
  begun : l.from ≤ l.t;
  reached : l.t ≤ l.from ⊎ l.t < l.end;
  later : l.t < l.until;
  most : l.until ≤ l.limit;
  ahead : BeginsFrom l.timer_walk.walk.list.now l.timer_walk.walk.begun l.until;
  stays : StaysAs (scene_at l.layout.dump l.fn.breach l.table l.list) l.t l.until;
  adds : Adds g.K.Sink.held g.K.Sink.faults l.fn.sink l.sink l.fn.text l.text
      (first_values (layout_signals l.layout) (scene_at l.layout.dump l.fn.breach l.table l.list l.from) l.from
      ++ flat_map (changes_at (layout_signals l.layout) (scene_at l.layout.dump l.fn.breach l.table l.list)) (range_with_len (l.from + 1) (l.t - l.from)));
}

abbrev pub decreases-loop-until : goal.decreases-loop-until
decreases-loop-until g l = l.end - l.until
