use Rattle.std.proofs.Common.{List, ℕ, sym, subst, arith}
use Rattle.bus_strings.proofs.ListLaws.{flat_map-next}
use Rattle.bus_outer.specs.Texts.{Adds}
use Rattle.bus_outer.proofs.TextLaws.{◌▸◌}
use Rattle.bus_page.specs.Feet.{shown}
use Rattle.std.proofs.lemmas.Grind.{common_steps}
use Rattle.bus_page.proofs.foot.put_shown_text.Goals as goal

pub loop-byte-preserved : goal.loop-byte-preserved
loop-byte-preserved g c =
    let next = flat_map-next shown c.args.bytes.now c.loop-byte.byte-index _ c.loop-byte-test.true in
    subst (λ (t : List ℕ). Adds g.K.Sink.held g.K.Sink.faults c.args.sink.now c.put_shown.new.sink c.args.text.now c.put_shown.new.text t) (sym next)
    (c.loop-byte.invariant ▸ c.put_shown.ensures)

pub returns : goal.returns
returns g c = grind (arith, common_steps)
