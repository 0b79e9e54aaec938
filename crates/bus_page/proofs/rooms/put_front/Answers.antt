use Rattle.std.proofs.Common.{List, ℕ, ◌++◌, codes, ap, subst}
use Rattle.bus_outer.specs.Texts.{Adds}
use Rattle.bus_outer.proofs.TextLaws.{◌▸◌}
use Rattle.bus_page.specs.Heads.{section_text}
use Rattle.bus_page.proofs.rooms.put_front.Goals as goal

pub returns : goal.returns
returns g c = let text : List ℕ → List ℕ = λ words.
    section_text (codes "Which rule limits the margins")
    ++ codes "<p>The bar of a rule of <code>margins</code> is what there is, and the stroke what it needs of that, "
    ++ codes "where it leaves the least room; a rule that lacks stands out. Each bar has a scale of its own. " ++ words
    ++ codes "What each asks stands in <code>docs/FORMATS.md</code> of the project's folder.</p>\n" in
    subst (λ (t : List ℕ). Adds g.K.Sink.held g.K.Sink.faults c.args.sink.now c.put-4.new.sink c.args.text.now c.put-4.new.self t)
    (ap text c.leading_words.ensures)
    (c.put_section.ensures ▸ c.put.ensures ▸ c.put-2.ensures ▸ c.put-3.ensures ▸ c.put-4.ensures)
