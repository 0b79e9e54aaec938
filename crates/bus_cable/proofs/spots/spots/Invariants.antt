use Rattle.std.proofs.Common.{◌≡◌, ℕ, length, take}
use Rattle.bus_cable.specs.Cables.{bits_for}
use Rattle.bus_propagation.specs.Numbered.{numbered}
use Rattle.bus_cable.proofs.spots.spots.Given as goal

abbrev pub invariant-loop-one : goal.invariant-loop-one
invariant-loop-one l = record {
  long : length l.spots ≡ 129;
  each : (n : ℕ) → numbered l.spots n ≡ bits_for (take l.one-index l.named) n;
}
