use Rattle.std.proofs.Common.{◌+◌, Bool, cond, [], ◌++◌, sym, subst, codes, decimal}
use Rattle.std.proofs.lemmas.Bool.{ne_eqb}
use Rattle.bus_outer.specs.Texts.{Adds}
use Rattle.bus_outer.proofs.TextLaws.{◌▸◌}
use Rattle.bus_pen.specs.declared.class.Class.TheVariants.{Small}
use Rattle.bus_pen.specs.Shapes.{words_text}
use Rattle.bus_picture.specs.declared.measures.TheConstants.{LEFT_OUT_LINE as left_out_line, PLOT_LEFT as plot_left}
use Rattle.bus_picture.proofs.writing.put_left_out.Goals as goal

pub returns-then-count-ne0 : goal.returns-then-count-ne0
returns-then-count-ne0 g c =
    subst (λ (b : Bool). Adds g.K.Sink.held g.K.Sink.faults c.args.sink.now c.end_words.new.sink c.args.text.now c.end_words.new.text
    (cond b [] (words_text Small plot_left (c.args.bottom + left_out_line) (decimal c.args.count ++ codes " more terminals send nothing in this window"))))
    (sym (ne_eqb c.args.count 0 c.if-count-ne0.true))
    (c.begin_words.ensures ▸ (c.put_number.ensures ▸ c.put.ensures) ▸ c.end_words.ensures)
