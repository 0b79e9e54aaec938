use Rattle.std.proofs.Common.{◌≡◌, ◌<◌, ℕ, false, map, take, get_or}
use Rattle.bus_filter.specs.inside.Keys.{key, key_count}
use Rattle.bus_filter.proofs.keys.gather_clear.Given as goal

-- the keys so far are gathered
abbrev pub invariant-loop-x : goal.invariant-loop-x
invariant-loop-x l = record {
  gathered : l.keys.items ≡ map (λ x. key (x, false)) (take l.x-index l.list);
  range : (k : ℕ) → get_or l.keys.items k 0 < key_count;
}
