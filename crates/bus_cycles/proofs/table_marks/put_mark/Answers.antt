use Rattle.std.proofs.Common.{ℕ, ◌+◌, Bool, List, [], ◌++◌, cond, ap, sym, subst, ◌∙◌}
use Rattle.std.proofs.lemmas.Bool.{le-leb}
use Rattle.bus_outer.specs.Texts.{Adds}
use Rattle.bus_outer.proofs.TextLaws.{◌▸◌}
use Rattle.bus_pen.specs.declared.area.Area.{Area}
use Rattle.bus_pen.specs.declared.class.Class.TheVariants.{Small, Mark}
use Rattle.bus_pen.specs.Scales.{place}
use Rattle.bus_pen.specs.Shapes.{box_text}
use Rattle.bus_cycles.specs.CyclesTexts.{mark_line, mark_words}
use Rattle.bus_cycles.specs.declared.measures.TheConstants.{MARK_WORDS_LINE as mark_words_line}
use Rattle.bus_cycles.proofs.table_marks.put_mark.Goals as goal

pub returns-then-t-page : goal.returns-then-t-page
returns-then-t-page g c =
    let page = c.args.page.now in
    let t = c.args.t in
    let text : Area → ℕ → List ℕ = λ area left. box_text Mark area ++ mark_words Small (left + 40) mark_words_line c.args.name.now t in
    subst (λ (x : List ℕ). Adds g.K.Sink.held g.K.Sink.faults c.args.sink.now c.put_mark_words.new.sink c.args.text.now c.put_mark_words.new.text x)
    (ap (λ (area : Area). text area c.place-left.result) c.mark_line.ensures
    ∙ ap (text (mark_line page t)) c.place-left.ensures.value
    ∙ sym (ap (λ (b : Bool). cond b (text (mark_line page t) (place page.scale t)) []) (le-leb t page.scale.to c.if-t-page.true)))
    (c.put_box.ensures ▸ c.put_mark_words.ensures)
