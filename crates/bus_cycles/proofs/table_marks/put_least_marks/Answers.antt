use Rattle.std.proofs.Common.{ℕ, ◌++◌, codes, subst, ◌∙◌}
use Rattle.bus_outer.specs.Texts.{Adds}
use Rattle.bus_outer.proofs.TextLaws.{◌▸◌}
use Rattle.bus_cycles.specs.CyclesTexts.{mark_text, least_text}
use Rattle.bus_cycles.proofs.table_marks.put_least_marks.Goals as goal

pub returns : goal.returns
returns g c =
    let page = c.args.page.now in
    subst (λ (n : ℕ). Adds g.K.Sink.held g.K.Sink.faults c.args.sink.now c.put_least.new.sink c.args.text.now c.put_least.new.text
    (mark_text page (codes "SG ") n ++ least_text page c.args.least))
    (c.from.ensures ∙ c.sg.ensures.value) (c.put_mark.ensures ▸ c.put_least.ensures)
