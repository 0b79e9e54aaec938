use Rattle.std.proofs.Common.{ℕ, ◌+◌, List, ◌++◌, ap, subst}
use Rattle.std.specs.Prelude.{decimal}
use Rattle.bus_outer.specs.Texts.{Adds}
use Rattle.bus_outer.proofs.TextLaws.{◌▸◌}
use Rattle.bus_pen.specs.declared.class.Class.TheVariants.{Detail, Small}
use Rattle.bus_pen.specs.Shapes.{words_text}
use Rattle.bus_cycles.specs.RowTexts.{begin_words, last_end_words}
use Rattle.bus_cycles.proofs.row_words.put_row_words.Goals as goal

pub returns : goal.returns
returns g c =
    let page = c.args.page.now in
    let row = c.args.row in
    let text : ℕ → List ℕ = λ line.
    words_text Small 200 line (decimal (row.place + 1)) ++ words_text Detail 1440 line (begin_words page.cycle.origin_offset row.begin)
    ++ words_text Detail 10200 line (last_end_words page row) in
    subst (λ (t : List ℕ). Adds g.K.Sink.held g.K.Sink.faults c.args.sink.now c.end_words-3.new.sink c.args.text.now c.end_words-3.new.text t)
    (ap text c.line_of-line.ensures)
    ((c.begin_words.ensures ▸ c.put_number.ensures ▸ c.end_words.ensures) ▸ (c.begin_words-2.ensures ▸ c.put_begin.ensures ▸ c.end_words-2.ensures)
    ▸ (c.begin_words-3.ensures ▸ c.put_last_end.ensures ▸ c.end_words-3.ensures))
