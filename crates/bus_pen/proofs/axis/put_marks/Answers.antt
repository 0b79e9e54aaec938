use Rattle.std.proofs.Common.{List, ℕ, ◌+◌, ◌*◌, sym, subst, arith}
use Rattle.bus_strings.proofs.ListLaws.{flat_map-range}
use Rattle.bus_outer.specs.Texts.{Adds}
use Rattle.bus_outer.proofs.TextLaws.{◌▸◌}
use Rattle.bus_pen.specs.Axes.{first_mark, mark_text}
use Rattle.std.proofs.lemmas.Grind.{common_steps}
use Rattle.bus_pen.proofs.axis.put_marks.Goals as goal

pub loop-k-preserved : goal.loop-k-preserved
loop-k-preserved g c =
    subst (λ (t : List ℕ). Adds g.K.Sink.held g.K.Sink.faults c.args.sink.now c.put_mark.new.sink c.args.text.now c.put_mark.new.text t)
    (sym (flat_map-range (λ k. mark_text c.args.scale.now c.args.axis.now c.args.step ((first_mark c.args.scale.now c.args.step + k) * c.args.step)) c.loop-k.k))
    (c.loop-k.invariant ▸ c.put_mark.ensures)

pub returns : goal.returns
returns g c = grind (arith, common_steps)
