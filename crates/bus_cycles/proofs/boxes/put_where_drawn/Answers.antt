use Rattle.std.proofs.Common.{◌≡◌, Bool, true, List, [], ℕ, cond, sym, subst}
use Rattle.std.proofs.lemmas.Bool.{lt-ltb}
use Rattle.bus_outer.specs.Texts.{Adds}
use Rattle.bus_pen.specs.declared.area.Area.{Area}
use Rattle.bus_cycles.specs.RowTexts.{area_of, sent_text}
use Rattle.bus_cycles.specs.Surveys.{is_drawn}
use Rattle.bus_cycles.proofs.boxes.put_where_drawn.Goals as goal

pub returns-then-row-lt-MOST_ROWS : goal.returns-then-row-lt-MOST_ROWS
returns-then-row-lt-MOST_ROWS g c =
    let drawn : is_drawn c.args.row.place ≡ true = lt-ltb c.args.row.place 500 c.if-row-lt-MOST_ROWS.true in
    let text : Area → List ℕ = λ area. sent_text area c.args.x.now in
    subst (λ (b : Bool). Adds g.K.Sink.held g.K.Sink.faults c.args.sink.now c.put_in.new.sink c.args.text.now c.put_in.new.text
    (cond b (text (area_of c.args.page.now c.args.row.place c.args.row.begin c.args.x.now)) [])) (sym drawn)
    (subst (λ (area : Area). Adds g.K.Sink.held g.K.Sink.faults c.args.sink.now c.put_in.new.sink c.args.text.now c.put_in.new.text (text area))
    c.area_of.ensures.value c.put_in.ensures)
