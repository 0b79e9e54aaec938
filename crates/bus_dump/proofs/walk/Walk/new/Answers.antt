use Rattle.std.proofs.Common.{arith}
use Rattle.std.proofs.lemmas.List.{get_or-replicate}
use Rattle.bus_dump.proofs.walk.Walk.new.Goals as goal

pub new-requires : goal.new-requires
new-requires c = c.neighbours_tell.ensures.ascending c.args.list.now c.requires.order

pub returns-clause-reaches : goal.returns-clause-reaches
returns-clause-reaches c = record {
  within = omega arith;
  before = λ k x h e. absurd (omega arith);
  ahead = λ k x h e. omega arith;
  live = c.new-2.ensures;
  counts = λ n h. get_or-replicate 129 n 0 0 (omega arith);
  marks = c.new.ensures;
}
