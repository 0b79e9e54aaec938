use Rattle.std.proofs.Common.{arith, List, ℕ, subst}
use Rattle.bus_outer.specs.Texts.{Adds}
use Rattle.bus_outer.proofs.TextLaws.{◌▸◌}
use Rattle.bus_filter.proofs.WordLemmas.{four_more}
use Rattle.bus_filter.proofs.writing.put_fours.Goals as goal

pub loop-k-preserved : goal.loop-k-preserved
loop-k-preserved g c =
    subst (λ (t : List ℕ). Adds g.K.Sink.held g.K.Sink.faults c.args.sink.now c.put_four.new.sink c.args.text.now c.put_four.new.text t)
    (four_more c.args.words.now c.loop-k.k (omega (arith, c.requires, c.loop-k-test.true)))
    (c.loop-k.invariant ▸ c.put_four.ensures)
