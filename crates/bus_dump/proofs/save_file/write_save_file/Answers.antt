use Rattle.std.proofs.Common.{List, ℕ, ap, ◌∙◌, subst}
use Rattle.bus_outer.specs.Texts.{Adds}
use Rattle.bus_outer.proofs.TextLaws.{ends_text, ◌▸◌}
use Rattle.bus_dump.specs.DumpTexts.{end_of_dump}
use Rattle.bus_dump.specs.Lanes.{lanes}
use Rattle.bus_dump.proofs.OpenLemmas.{whole_saved}
use Rattle.bus_dump.proofs.save_file.write_save_file.Goals as goal

pub returns : goal.returns
returns g c =
    let table = c.args.table.now in
    let window = c.args.window.now in
    ends_text g.K.Sink.held g.K.Sink.faults c.args.sink.now c.show_all.new.sink c.finish.new.sink c.new-text.result c.show_all.new.text
    c.finish.result _ c.finish.ensures
    (subst (λ (t : List ℕ). Adds g.K.Sink.held g.K.Sink.faults c.args.sink.now c.show_all.new.sink c.new-text.result c.show_all.new.text t)
    (whole_saved window c.args.breach table c.args.trace.now c.from.result c.end_in-end.result c.shown_breach-seen.result
    c.telling_breach-telling.result c.as_slice-lanes.result.now c.from.ensures.value
    (c.end_in-end.ensures ∙ ap (end_of_dump window) c.horizon.ensures.value) c.shown_breach-seen.ensures
    (c.as_slice-lanes.ensures.value ∙ c.lanes_of-all.ensures ∙ ap (lanes table) c.list.ensures.value) c.telling_breach-telling.ensures)
    (c.put_opening.ensures ▸ c.show_all.ensures)) c.new-text.ensures
