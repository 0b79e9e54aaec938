use Rattle.std.proofs.Common.{List, ℕ, true, ◌++◌, ap, codes, subst, ◌∙◌}
use Rattle.bus_outer.specs.Texts.{Adds}
use Rattle.bus_outer.proofs.TextLaws.{◌▸◌, ends_text}
use Rattle.std.specs.Prelude.{Option}
use Rattle.bus_bounds.specs.Bounds.{Bounds}
use Rattle.bus_regime.specs.Verdicts.{verdict_of}
use Rattle.bus_regime.specs.declared.table_verdict.TableVerdict.{TableVerdict}
use Rattle.bus_reach.specs.Bearing.{tolerance_of}
use Rattle.bus_page.specs.Feet.{resting_text}
use Rattle.bus_page.specs.Heads.{bounds_of, figures_text, head_text, heading_text, section_text, verdict_text}
use Rattle.bus_page.specs.Pages.{pictures_text}
use Rattle.bus_page.proofs.AcceptLemmas.{most_of}
use Rattle.bus_page.proofs.page.write_accepted_front.Goals as goal

pub returns : goal.returns
returns g c =
    let text : TableVerdict → Bounds → Option ℕ → List ℕ = λ v b d. head_text v ++ heading_text true ++ verdict_text v ++ figures_text b c.args.table.now c.args.figures.now.least c.args.figures.now.most d ++ pictures_text c.args.asked.now c.args.table.now c.args.figures.now.least c.args.figures.now.most ++ resting_text ++ section_text (codes "What it means") ++ codes "<pre class=\"said\">" in
    ends_text g.K.Sink.held g.K.Sink.faults c.args.sink.now c.put.new.sink c.finish.new.sink c.new-text.result c.put.new.self c.finish.result _ c.finish.ensures
    (subst (λ (t : List ℕ). Adds g.K.Sink.held g.K.Sink.faults c.args.sink.now c.put.new.sink c.new-text.result c.put.new.self t)
    (ap (λ (x : TableVerdict). text x c.bounds_of.result c.args.figures.now.tolerance) (c.requires.verdict)
    ∙ ap (λ (x : Bounds). text (verdict_of c.args.table.now) x c.args.figures.now.tolerance) c.bounds_of.ensures
    ∙ ap (λ (x : Option ℕ). text (verdict_of c.args.table.now) (bounds_of c.args.asked.now) x) (c.requires.tolerance))
    (c.put_head.ensures ▸ c.put_heading.ensures ▸ c.put_verdict_line.ensures ▸ c.put_figures.ensures ▸ c.put_pictures.ensures ▸ c.put_premises.ensures ▸ c.put_section.ensures ▸ c.put.ensures)) c.new-text.ensures

pub put_figures-requires-clause-least : goal.put_figures-requires-clause-least
put_figures-requires-clause-least g c = (c.args.figures.now.most, c.requires.accepted)

pub put_figures-requires-clause-most : goal.put_figures-requires-clause-most
put_figures-requires-clause-most g c =
    (most_of c.args.table.now c.args.figures.now.least c.args.figures.now.most c.table_is_valid.ensures c.requires.accepted).some
