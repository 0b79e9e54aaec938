use Rattle.std.proofs.Common.{◌≡◌, length, drop}
use Rattle.bus_strings.specs.Items.{numbers}
use Rattle.bus_table.specs.Fits.{has_shape}
use Rattle.bus_hands.proofs.fitting.has_shape.Given as goal

abbrev pub invariant-loop-k : goal.invariant-loop-k
invariant-loop-k l = record {
  same : length l.sends ≡ length l.strings;
  left : has_shape (drop l.k l.sends) (drop l.k (numbers l.strings)) ≡ has_shape l.sends (numbers l.strings);
}
