use Rattle.std.proofs.Common.{◌≡◌, ℕ, ◌<◌, take}
use Rattle.std.specs.List.{All}
use Rattle.bus_strings.specs.Transmissions.{carrier}
use Rattle.bus_load.specs.Loads.{Stretch, is_within}
use Rattle.bus_load.proofs.gathering.gathered.Given as goal

abbrev pub invariant-loop-x : goal.invariant-loop-x
invariant-loop-x l = record {
  within : (t : ℕ) → is_within l.gathered.items t ≡ carrier (take l.x-index l.list) t;
  some : All (λ (s : Stretch). s.from < s.to) l.gathered.items;
}
