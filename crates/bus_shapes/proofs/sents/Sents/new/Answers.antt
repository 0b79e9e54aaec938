use Rattle.std.proofs.Common.{arith, refl}
use Rattle.std.proofs.lemmas.List.{get_or-replicate}
use Rattle.bus_shapes.proofs.sents.Sents.new.Goals as goal

pub invariant_of-result : goal.invariant_of-result
invariant_of-result c = record {
  order = c.requires;
  within = omega arith;
  ends = refl;
  counted = λ n h. get_or-replicate 129 n 0 0 (omega arith);
  marks = c.new.ensures;
}
