use Rattle.std.proofs.Common.{List, ℕ, arith, sym, subst}
use Rattle.bus_outer.specs.Texts.{Adds}
use Rattle.bus_outer.proofs.TextLaws.{◌▸◌}
use Rattle.bus_picture.proofs.WordLemmas.{one_more}
use Rattle.std.proofs.lemmas.Grind.{common_steps}
use Rattle.bus_picture.proofs.words.put_data.Goals as goal

pub loop-k-preserved : goal.loop-k-preserved
loop-k-preserved g c =
    subst (λ (t : List ℕ). Adds g.K.Sink.held g.K.Sink.faults c.args.sink.now c.put_data_at.new.sink c.args.text.now c.put_data_at.new.text t)
    (sym (one_more c.args.scale.now c.args.top c.args.garbled c.args.t c.args.words.now c.loop-k.k _ (omega arith)))
    (c.loop-k.invariant ▸ c.put_data_at.ensures)

pub returns : goal.returns
returns g c = grind (arith, common_steps)
