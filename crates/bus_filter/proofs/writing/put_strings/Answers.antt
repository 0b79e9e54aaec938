use Rattle.std.proofs.Common.{List, ℕ, subst, sym, arith}
use Rattle.bus_outer.specs.Texts.{Adds}
use Rattle.bus_outer.proofs.TextLaws.{◌▸◌}
use Rattle.bus_strings.proofs.ListLaws.{flat_map-take}
use Rattle.bus_filter.specs.inside.Putting.{string_put}
use Rattle.std.proofs.lemmas.Grind.{common_steps}
use Rattle.bus_filter.proofs.writing.put_strings.Goals as goal

pub loop-string-preserved : goal.loop-string-preserved
loop-string-preserved g c =
    subst (λ (t : List ℕ). Adds g.K.Sink.held g.K.Sink.faults c.args.sink.now c.put_string.new.sink c.args.text.now c.put_string.new.text t)
    (sym (flat_map-take (string_put c.args.takes.now c.args.moment) c.args.strings.now c.loop-string.string-index c.string-item.result c.loop-string-test.true c.string-item.is))
    (c.loop-string.invariant ▸ c.put_string.ensures)

pub returns : goal.returns
returns g c = grind (arith, common_steps)
