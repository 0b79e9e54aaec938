use Rattle.std.proofs.Common.{List, ℕ, ◌++◌, ◌+◌, ◌-◌, ◌*◌, ◌/◌, ap, codes, subst, ◌∙◌}
use Rattle.std.specs.Prelude.{decimal}
use Rattle.bus_outer.specs.Texts.{Adds}
use Rattle.bus_outer.proofs.TextLaws.{◌▸◌}
use Rattle.bus_pen.specs.Scales.{place}
use Rattle.bus_pen.specs.declared.class.Class.TheVariants.{IntervalWords}
use Rattle.bus_page.specs.Cycles.{number_words}
use Rattle.bus_page.specs.Paints.{plain}
use Rattle.bus_page.specs.declared.paint.Paint.TheVariants.{Interval}
use Rattle.bus_page.proofs.cycles.put_interval.Goals as goal

pub returns : goal.returns
returns g c =
    let text : ℕ → List ℕ = λ x1. plain Interval (record { left = x1; top = 270; width = 15; height = 1320 }) ++ number_words IntervalWords (x1 - 60) 900 (codes "TI ") c.args.ti in
    subst (λ (t : List ℕ). Adds g.K.Sink.held g.K.Sink.faults c.args.sink.now c.put_number_words.new.sink c.args.text.now c.put_number_words.new.text t)
    (ap (λ (x : ℕ). text x) (c.place-left.ensures.value))
    (c.put_plain.ensures ▸ c.put_number_words.ensures)
