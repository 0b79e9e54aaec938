use Rattle.std.proofs.Common.{List, ℕ, ◌++◌, ◌+◌, ◌-◌, ◌*◌, ◌/◌, ap, codes, subst, ◌∙◌}
use Rattle.std.specs.Prelude.{decimal}
use Rattle.bus_outer.specs.Texts.{Adds}
use Rattle.bus_outer.proofs.TextLaws.{◌▸◌}
use Rattle.bus_pen.specs.declared.area.Area.{Area}
use Rattle.bus_say.specs.Times.{time_text}
use Rattle.bus_page.specs.Cycles.{spare_area}
use Rattle.bus_page.specs.Paints.{painted}
use Rattle.bus_page.specs.declared.paint.Paint.TheVariants.{Spare}
use Rattle.bus_page.proofs.cycles.put_spare.Goals as goal

pub returns : goal.returns
returns g c =
    let text : Area → ℕ → List ℕ = λ a n. painted Spare a (codes "spare " ++ time_text n) in
    subst (λ (t : List ℕ). Adds g.K.Sink.held g.K.Sink.faults c.args.sink.now c.end_painted.new.sink c.args.text.now c.end_painted.new.text t)
    (ap (λ (x : Area). text x c.saturating_sub.result) (c.spare_area.ensures)
    ∙ ap (λ (x : ℕ). text (spare_area c.args.scale.now c.args.ti c.args.least) x) (c.saturating_sub.ensures))
    (c.begin_painted.ensures ▸ (c.put.ensures ▸ c.put_time.ensures) ▸ c.end_painted.ensures)
