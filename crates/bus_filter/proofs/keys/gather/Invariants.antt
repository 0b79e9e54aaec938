use Rattle.std.proofs.Common.{◌≡◌, ◌<◌, ℕ, map, take, drop, get_or}
use Rattle.std.specs.List.{zip}
use Rattle.bus_strings.specs.Transmissions.{marks}
use Rattle.bus_filter.specs.inside.Keys.{key, key_count}
use Rattle.bus_filter.proofs.keys.gather.Given as goal

-- the keys so far are gathered, and the marks of the others are left
abbrev pub invariant-loop-x : goal.invariant-loop-x
invariant-loop-x l = record {
  left : l.marks ≡ drop l.x-index (marks l.list);
  gathered : l.keys.items ≡ map key (take l.x-index (zip l.list (marks l.list)));
  range : (k : ℕ) → get_or l.keys.items k 0 < key_count;
}
