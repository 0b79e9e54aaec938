use Rattle.std.proofs.Common.{List, ℕ, ◌++◌, ◌+◌, ◌-◌, ◌*◌, ◌/◌, ap, codes, subst, ◌∙◌}
use Rattle.std.specs.Prelude.{decimal}
use Rattle.bus_outer.specs.Texts.{Adds}
use Rattle.bus_outer.proofs.TextLaws.{◌▸◌}
use Rattle.bus_page.specs.Heads.{figure, level_name, level_words}
use Rattle.bus_page.proofs.heading.put_level_figure.Goals as goal

pub returns : goal.returns
returns g c =
    let text : List ℕ → List ℕ = λ a. figure (level_name c.args.bounds) a in
    subst (λ (t : List ℕ). Adds g.K.Sink.held g.K.Sink.faults c.args.sink.now c.end_figure.new.sink c.args.text.now c.end_figure.new.text t)
    (ap text c.level_words.ensures)
    ((c.put.ensures ▸ c.put_level_name.ensures ▸ c.put-2.ensures) ▸ c.put-3.ensures ▸ c.end_figure.ensures)
