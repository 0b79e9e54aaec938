use Rattle.std.proofs.Common.{◌≡◌, length, drop}
use Rattle.bus_table.specs.Fits.{allows, matches}
use Rattle.bus_table.proofs.fit.strings_fit.Given as goal

abbrev pub invariant-loop-k : goal.invariant-loop-k
invariant-loop-k l = record {
  same : length l.sends ≡ length l.message;
  left : matches allows (drop l.k l.sends) (drop l.k l.message) ≡ matches allows l.sends l.message;
}
