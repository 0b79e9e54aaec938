use Rattle.std.proofs.Common.{◌≡◌, ◌<◌, ◌≤◌, length, take}
use Rattle.std.specs.List.{AllByRecursion, filter_map}
use Rattle.bus_dump.specs.inside.Walks.{IsSteady, see}
use Rattle.bus_dump.proofs.look.look.Given as goal

-- the live transmissions so far are seen, and stay as they are until then
abbrev pub invariant-loop-one : goal.invariant-loop-one
invariant-loop-one l = record {
  seen : l.seen.items ≡ filter_map (see l.list l.t) (take l.one-index l.live);
  count : length l.seen.items ≡ l.one-index;
  later : l.t < l.until;
  most : l.until ≤ l.limit;
  steady : AllByRecursion (IsSteady l.list l.t l.until) (take l.one-index l.live);
}
