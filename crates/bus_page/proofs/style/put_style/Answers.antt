use Rattle.std.proofs.Common.{List, ℕ, ◌++◌, ap, codes, subst, ◌∙◌}
use Rattle.bus_outer.specs.Texts.{Adds}
use Rattle.bus_outer.proofs.TextLaws.{◌▸◌}
use Rattle.bus_page.specs.Styles.{colours_text, looks_text, shapes_text, prints_text}
use Rattle.bus_page.proofs.style.put_style.Goals as goal

pub returns : goal.returns
returns g c =
    let text : List ℕ → List ℕ → List ℕ → List ℕ → List ℕ = λ a b d e. codes "<style>\n" ++ a ++ b ++ d ++ e ++ codes "</style>\n" in
    subst (λ (t : List ℕ). Adds g.K.Sink.held g.K.Sink.faults c.args.sink.now c.put-6.new.sink c.args.text.now c.put-6.new.self t)
    (ap (λ (x : List ℕ). text x c.looks.result.now c.shapes.result.now c.prints.result.now) (c.colours.ensures)
    ∙ ap (λ (x : List ℕ). text colours_text x c.shapes.result.now c.prints.result.now) (c.looks.ensures)
    ∙ ap (λ (x : List ℕ). text colours_text looks_text x c.prints.result.now) (c.shapes.ensures)
    ∙ ap (λ (x : List ℕ). text colours_text looks_text shapes_text x) (c.prints.ensures))
    (c.put.ensures ▸ c.put-2.ensures ▸ c.put-3.ensures ▸ c.put-4.ensures ▸ c.put-5.ensures ▸ c.put-6.ensures)
