use Rattle.std.proofs.Common.{◌≡◌, ◌+◌, length, drop}
use Rattle.bus_strings.specs.Items.{numbers}
use Rattle.bus_diagnosis.specs.Misfits.{words_misfit}
use Rattle.bus_diagnosis.proofs.misfit.shape_misfit.Given as goal

abbrev pub invariant-loop-k : goal.invariant-loop-k
invariant-loop-k l = record {
  same : length l.sends ≡ length l.strings;
  left : words_misfit l.count (l.k + 1) (drop l.k l.sends) (drop l.k (numbers l.strings)) ≡ words_misfit l.count 1 l.sends (numbers l.strings);
}
