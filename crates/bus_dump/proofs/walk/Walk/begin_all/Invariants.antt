use Rattle.std.proofs.Common.{◌≡◌, ◌-◌, length}
use Rattle.bus_dump.specs.inside.Walks.{IsWalkable, Reaches}
use Rattle.bus_dump.proofs.walk.Walk.begin_all.Given as goal

abbrev pub invariant-loop-self : goal.invariant-loop-self
invariant-loop-self l = record {
  list : l.self.list.now ≡ l.fn.self.list.now;
  walkable : IsWalkable l.self.list.now;
  reaches : Reaches l.self.list.now l.t l.self;
}

abbrev pub decreases-loop-self : goal.decreases-loop-self
decreases-loop-self l = length l.self.list.now - l.self.begun
