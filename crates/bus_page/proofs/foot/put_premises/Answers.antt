use Rattle.std.proofs.Common.{List, ℕ, ◌++◌, ◌+◌, ◌-◌, ◌*◌, ◌/◌, ap, codes, subst, ◌∙◌}
use Rattle.std.specs.Prelude.{decimal}
use Rattle.bus_outer.specs.Texts.{Adds}
use Rattle.bus_outer.proofs.TextLaws.{◌▸◌}
use Rattle.bus_page.specs.Feet.{premises_text}
use Rattle.bus_page.specs.Heads.{section_text}
use Rattle.bus_page.proofs.foot.put_premises.Goals as goal

pub returns : goal.returns
returns g c =
    let text : List ℕ → List ℕ = λ a. section_text (codes "What this rests on") ++ a in
    subst (λ (t : List ℕ). Adds g.K.Sink.held g.K.Sink.faults c.args.sink.now c.put.new.sink c.args.text.now c.put.new.self t)
    (ap (λ (x : List ℕ). text x) (c.premises.ensures))
    (c.put_section.ensures ▸ c.put.ensures)
