use Rattle.std.proofs.Common.{List, ℕ, ◌++◌, ◌+◌, ◌-◌, ◌*◌, ◌/◌, ap, codes, subst, ◌∙◌}
use Rattle.std.specs.Prelude.{decimal}
use Rattle.bus_outer.specs.Texts.{Adds}
use Rattle.bus_outer.proofs.TextLaws.{◌▸◌}
use Rattle.bus_pen.specs.Scales.{place}
use Rattle.bus_pen.specs.declared.class.Class.TheVariants.{IntervalWords}
use Rattle.bus_page.specs.Cycles.{number_words}
use Rattle.bus_page.proofs.cycles.put_spare_words.Goals as goal

pub returns : goal.returns
returns g c =
    let text : ℕ → ℕ → List ℕ = λ x1 n. number_words IntervalWords (x1 - 60) 315 (codes "spare ") n in
    subst (λ (t : List ℕ). Adds g.K.Sink.held g.K.Sink.faults c.args.sink.now c.put_number_words.new.sink c.args.text.now c.put_number_words.new.text t)
    (ap (λ (x : ℕ). text x c.saturating_sub-spare.result) (c.place-right.ensures.value)
    ∙ ap (λ (x : ℕ). text (place c.args.scale.now c.args.ti) x) (c.saturating_sub-spare.ensures))
    (c.put_number_words.ensures)
