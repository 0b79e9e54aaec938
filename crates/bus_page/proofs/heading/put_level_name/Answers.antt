use Rattle.std.proofs.Common.{List, ℕ, ◌++◌, ◌+◌, ◌-◌, ◌*◌, ◌/◌, ap, codes, subst, ◌∙◌}
use Rattle.std.specs.Prelude.{decimal}
use Rattle.bus_outer.specs.Texts.{Adds}
use Rattle.bus_outer.proofs.TextLaws.{◌▸◌}
use Rattle.bus_page.proofs.heading.put_level_name.Goals as goal

pub returns : goal.returns
returns g c =
    let text : ℕ → ℕ → ℕ → List ℕ = λ d j p. codes "level, within " ++ decimal d ++ codes " ns of delay, " ++ decimal j ++ codes " ns of jitter, and clocks " ++ decimal p ++ codes " millionths off" in
    subst (λ (t : List ℕ). Adds g.K.Sink.held g.K.Sink.faults c.args.sink.now c.put-4.new.sink c.args.text.now c.put-4.new.self t)
    (ap (λ (x : ℕ). text x c.jitter.result c.clocks.result) c.delay.ensures.value
    ∙ ap (λ (x : ℕ). text c.args.bounds.delay x c.clocks.result) c.jitter.ensures.value
    ∙ ap (λ (x : ℕ). text c.args.bounds.delay c.args.bounds.jitter x) c.clocks.ensures.value)
    (c.put.ensures ▸ c.put_number.ensures ▸ c.put-2.ensures ▸ c.put_number-2.ensures ▸ c.put-3.ensures ▸ c.put_number-3.ensures ▸ c.put-4.ensures)
