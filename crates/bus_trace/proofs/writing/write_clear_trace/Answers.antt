use Rattle.std.proofs.Common.{sym, subst, List, ℕ}
use Rattle.bus_outer.specs.Texts.{Adds}
use Rattle.bus_outer.proofs.TextLaws.{◌▸◌, ends_text}
use Rattle.bus_strings.specs.Transmissions.{IsClear}
use Rattle.bus_trace.proofs.WriteTexts.{clear_as_read}
use Rattle.bus_trace.proofs.writing.write_clear_trace.Goals as goal

pub put_clear_list-requires : goal.put_clear_list-requires
put_clear_list-requires g c = subst IsClear (sym c.list.ensures.value) c.requires

pub returns : goal.returns
returns g c =
    let e = clear_as_read c.args.trace.now c.list.result.now c.neighbours_tell.ensures.clear c.requires c.list.ensures.value in
    ends_text g.K.Sink.held g.K.Sink.faults c.args.sink.now c.put.new.sink c.finish.new.sink c.new-text.result c.put.new.self
    c.finish.result _ c.finish.ensures
    (subst (λ (t : List ℕ). Adds g.K.Sink.held g.K.Sink.faults c.args.sink.now c.put.new.sink c.new-text.result c.put.new.self t) e
    (c.put_opening.ensures ▸ c.put_clear_list.ensures ▸ c.put.ensures)) c.new-text.ensures
