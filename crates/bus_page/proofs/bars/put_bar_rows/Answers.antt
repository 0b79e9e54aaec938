use Rattle.std.proofs.Common.{List, ℕ, ◌+◌, ◌*◌, arith, sym, subst}
use Rattle.bus_outer.specs.Texts.{Adds}
use Rattle.bus_outer.proofs.TextLaws.{◌▸◌}
use Rattle.bus_page.specs.Bars.{bar_text}
use Rattle.bus_page.proofs.RowLemmas.{rows_more}
use Rattle.std.proofs.lemmas.Grind.{common_steps}
use Rattle.bus_page.proofs.bars.put_bar_rows.Goals as goal

pub loop-limit-preserved : goal.loop-limit-preserved
loop-limit-preserved g c =
    let next = rows_more (bar_text c.args.scale.now c.args.tolerance) 210 40 c.args.limits.now c.loop-limit.limit-index _ c.loop-limit.top c.loop-limit-test.true c.loop-limit.invariant.top in
    record {
      text = subst (λ (t : List ℕ). Adds g.K.Sink.held g.K.Sink.faults c.args.sink.now c.put_bar.new.sink c.args.text.now c.put_bar.new.text t) (sym next)
          (c.loop-limit.invariant.text ▸ c.put_bar.ensures);
      top = omega (arith, c.loop-limit.invariant.top);
    }

pub returns : goal.returns
returns g c = grind (arith, common_steps)
