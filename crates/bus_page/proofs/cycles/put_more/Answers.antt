use Rattle.std.proofs.Common.{List, ℕ, ◌++◌, ◌+◌, ◌-◌, ◌*◌, ◌/◌, ap, codes, subst, ◌∙◌}
use Rattle.std.specs.Prelude.{decimal}
use Rattle.bus_outer.specs.Texts.{Adds}
use Rattle.bus_outer.proofs.TextLaws.{◌▸◌}
use Rattle.bus_pen.specs.Scales.{place}
use Rattle.bus_pen.specs.declared.class.Class.TheVariants.{Detail}
use Rattle.bus_pen.specs.Shapes.{words_text}
use Rattle.bus_page.proofs.cycles.put_more.Goals as goal

pub returns : goal.returns
returns g c =
    let text : ℕ → ℕ → List ℕ = λ x1 n. words_text Detail x1 1190 (codes "up to " ++ decimal n ++ codes " more") in
    subst (λ (t : List ℕ). Adds g.K.Sink.held g.K.Sink.faults c.args.sink.now c.end_words.new.sink c.args.text.now c.end_words.new.text t)
    (ap (λ (x : ℕ). text x c.saturating_sub.result) (c.place.ensures.value)
    ∙ ap (λ (x : ℕ). text (place c.args.scale.now c.args.most) x) (c.saturating_sub.ensures))
    (c.begin_words.ensures ▸ (c.put.ensures ▸ c.put_number.ensures ▸ c.put-2.ensures) ▸ c.end_words.ensures)
