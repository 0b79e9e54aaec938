use Rattle.std.proofs.Common.{◌∙◌}
use Rattle.bus_outer.proofs.WriteLaws.{written_front}
use Rattle.bus_outer.proofs.whole.write_all.Goals as goal

pub loop-rest-preserved : goal.loop-rest-preserved
loop-rest-preserved g c = record {
  written = written_front _ _ _ _ _ _ _ c.loop-rest.invariant.written c.in-Took.ensures.bytes.2 c.split_at.ensures.back;
  same = c.in-Took.ensures.counts ∙ c.loop-rest.invariant.same;
}
