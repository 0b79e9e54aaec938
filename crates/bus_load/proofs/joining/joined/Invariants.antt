use Rattle.std.proofs.Common.{◌≡◌, ℕ, ◌<◌, ◌≤◌, get_or, length, take}
use Rattle.std.specs.List.{All}
use Rattle.bus_load.specs.Loads.{Stretch, AreApart, is_within}
use Rattle.bus_load.proofs.joining.joined.Given as goal

abbrev pub invariant-loop-stretch : goal.invariant-loop-stretch
invariant-loop-stretch l = record {
  apart : AreApart l.joined.items;
  within : (t : ℕ) → is_within l.joined.items t ≡ is_within (take l.stretch-index l.stretches) t;
  begun : (d : Stretch) → l.stretch-index < length l.stretches
      → All (λ (s : Stretch). s.from ≤ (get_or l.stretches l.stretch-index d).from) l.joined.items;
}
