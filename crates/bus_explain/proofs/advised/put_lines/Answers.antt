use Rattle.std.proofs.Common.{List, ℕ, sym, subst}
use Rattle.bus_strings.proofs.ListLaws.{flat_map-next}
use Rattle.bus_advice.specs.declared.advice.Advice.TheVariants.{Interval}
use Rattle.bus_outer.specs.Texts.{Adds}
use Rattle.bus_outer.proofs.TextLaws.{◌▸◌}
use Rattle.bus_explain.specs.Advised.{advice_line}
use Rattle.bus_explain.proofs.advised.put_lines.Goals as goal

pub loop-advice-preserved : goal.loop-advice-preserved
loop-advice-preserved g c =
    let next = flat_map-next advice_line c.args.advices.now c.loop-advice.advice-index (Interval 0) c.loop-advice-test.true in
    subst (λ (t : List ℕ). Adds g.K.Sink.held g.K.Sink.faults c.args.sink.now c.put_advice.new.sink c.args.text.now c.put_advice.new.text t) (sym next)
    (c.loop-advice.invariant ▸ c.put_advice.ensures)
