use Rattle.std.proofs.Common.{List, ℕ, ◌++◌, subst, ap}
use Rattle.std.specs.Prelude.{codes, decimal}
use Rattle.bus_outer.specs.Texts.{Adds}
use Rattle.bus_outer.proofs.TextLaws.{◌▸◌}
use Rattle.bus_pen.specs.declared.class.Class.TheVariants.{Small}
use Rattle.bus_pen.specs.Shapes.{words_text}
use Rattle.bus_cycles.proofs.row_words.put_ends.Goals as goal

pub returns : goal.returns
returns g c =
    let row = c.args.row in
    subst (λ (t : List ℕ). Adds g.K.Sink.held g.K.Sink.faults c.args.sink.now c.end_words.new.sink c.args.text.now c.end_words.new.text t)
    (ap (λ (n : ℕ). words_text Small 8650 n (decimal row.first ++ codes "-" ++ decimal row.last)) c.line_of.ensures)
    (c.begin_words.ensures ▸ (c.put_number.ensures ▸ c.put_byte.ensures ▸ c.put_number-2.ensures) ▸ c.end_words.ensures)
