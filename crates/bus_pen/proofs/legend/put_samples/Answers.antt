use Rattle.std.proofs.Common.{List, ℕ, sym, subst, arith}
use Rattle.std.proofs.lemmas.Grind.{common_steps}
use Rattle.bus_strings.proofs.ListLaws.{flat_map-next}
use Rattle.bus_outer.specs.Texts.{Adds}
use Rattle.bus_outer.proofs.TextLaws.{◌▸◌}
use Rattle.bus_pen.specs.Classes.{Background}
use Rattle.bus_pen.specs.Legends.{Sample, sample_text}
use Rattle.bus_pen.proofs.legend.put_samples.Goals as goal

abbrev some : Sample
some = record { class = Background; left = 0; below = 0; width = 0; height = 0 }

pub loop-sample-preserved : goal.loop-sample-preserved
loop-sample-preserved g c =
    let next = flat_map-next (sample_text c.args.top) c.args.samples.now c.loop-sample.sample-index some c.loop-sample-test.true in
    subst (λ (t : List ℕ). Adds g.K.Sink.held g.K.Sink.faults c.args.sink.now c.put_sample.new.sink c.args.text.now c.put_sample.new.text t) (sym next)
    (c.loop-sample.invariant ▸ c.put_sample.ensures)

pub returns : goal.returns
returns g c = grind (arith, common_steps)
