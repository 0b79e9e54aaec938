use Rattle.std.proofs.Common.{List, ℕ, ap, subst, ◌∙◌}
use Rattle.bus_outer.specs.Texts.{Adds}
use Rattle.bus_outer.proofs.TextLaws.{◌▸◌}
use Rattle.bus_filter.specs.Received.{selection}
use Rattle.bus_filter.proofs.PutLemmas.{line_is}
use Rattle.bus_filter.proofs.writing.put_line.Goals as goal

pub returns : goal.returns
returns g c =
    let e = line_is c.args.moment c.args.string.now c.args.line.now c.label.result c.ext.result c.head_bytes.result c.selection.result.now
    c.head_bytes.ensures c.label.ensures.value c.ext.ensures.value (c.selection.ensures ∙ ap (selection c.args.line.now) c.words.ensures.value) in
    subst (λ (t : List ℕ). Adds g.K.Sink.held g.K.Sink.faults c.args.sink.now c.put_byte.new.sink c.args.text.now c.put_byte.new.self t) e
    (c.put.ensures ▸ c.put_number.ensures ▸ c.put-2.ensures ▸ c.put_words.ensures ▸ c.put_byte.ensures)
