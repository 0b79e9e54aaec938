use Rattle.std.proofs.Common.{List, ℕ, sym, subst, arith}
use Rattle.bus_outer.specs.Texts.{Adds}
use Rattle.bus_outer.proofs.TextLaws.{◌▸◌}
use Rattle.bus_picture.specs.Faults.{fault_text}
use Rattle.bus_picture.proofs.FaultLemmas.{text_more}
use Rattle.std.proofs.lemmas.Grind.{common_steps}
use Rattle.bus_picture.proofs.faults.put_each.Goals as goal

pub loop-i-preserved : goal.loop-i-preserved
loop-i-preserved g c =
    subst (λ (t : List ℕ). Adds g.K.Sink.held g.K.Sink.faults c.args.sink.now c.put_marked_at.new.sink c.args.text.now c.put_marked_at.new.text t)
    (sym (text_more c.args.scale.now (fault_text c.args.scale.now c.args.near c.args.lanes.now) c.args.list.now c.args.judgements.now c.loop-i.i))
    (c.loop-i.invariant ▸ c.put_marked_at.ensures)

pub returns : goal.returns
returns g c = grind (arith, common_steps)
