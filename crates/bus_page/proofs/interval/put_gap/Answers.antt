use Rattle.std.proofs.Common.{List, ℕ, ◌++◌, ◌+◌, ◌-◌, ◌*◌, ◌/◌, ap, codes, subst, ◌∙◌}
use Rattle.std.specs.Prelude.{decimal}
use Rattle.bus_outer.specs.Texts.{Adds}
use Rattle.bus_outer.proofs.TextLaws.{◌▸◌}
use Rattle.bus_pen.specs.declared.area.Area.{Area}
use Rattle.bus_page.specs.declared.paint.Paint.{Paint}
use Rattle.bus_page.specs.Intervals.{gap_area, gap_paint, gap_words}
use Rattle.bus_page.specs.Paints.{painted}
use Rattle.bus_page.proofs.interval.put_gap.Goals as goal

pub returns : goal.returns
returns g c =
    let text : Paint → Area → List ℕ = λ p a. painted p a (gap_words c.args.slot) in
    subst (λ (t : List ℕ). Adds g.K.Sink.held g.K.Sink.faults c.args.sink.now c.end_painted.new.sink c.args.text.now c.end_painted.new.text t)
    (ap (λ (x : Paint). text x c.gap_area.result) (c.gap_paint.ensures)
    ∙ ap (λ (x : Area). text (gap_paint c.args.slot.synced) x) (c.gap_area.ensures))
    (c.begin_painted.ensures ▸ c.put_gap_words.ensures ▸ c.end_painted.ensures)
