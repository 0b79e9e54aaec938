use Rattle.std.proofs.Common.{Bool, List, ℕ, [], cond, ap, sym, subst, ◌∙◌, arith}
use Rattle.bus_outer.specs.Texts.{Adds}
use Rattle.bus_cycles.specs.CyclesTexts.{axes_below}
use Rattle.bus_cycles.specs.Pages.{bottom_of}
use Rattle.std.proofs.lemmas.Grind.{common_steps}
use Rattle.bus_cycles.proofs.plot.put_below.Goals as goal

pub returns-then-is_long : goal.returns-then-is_long
returns-then-is_long g c =
    let page = c.args.page.now in
    subst (λ (t : List ℕ). Adds g.K.Sink.held g.K.Sink.faults c.args.sink.now c.put_axes_below.new.sink c.args.text.now c.put_axes_below.new.text t)
    (ap (axes_below page.scale) c.bottom.ensures.value
    ∙ sym (ap (λ (b : Bool). cond b (axes_below page.scale (bottom_of page)) []) (sym c.is_long.ensures ∙ c.if-is_long.true)))
    c.put_axes_below.ensures

pub returns-else-is_long : goal.returns-else-is_long
returns-else-is_long g c = grind (arith, common_steps)
