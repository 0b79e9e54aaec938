use Rattle.std.proofs.Common.{List, ℕ, sym, subst}
use Rattle.bus_outer.specs.Texts.{Adds}
use Rattle.bus_outer.proofs.TextLaws.{◌▸◌}
use Rattle.bus_strings.specs.Messages.{Entry}
use Rattle.bus_table.specs.Tables.{Table}
use Rattle.bus_picture.specs.Rows.{rows_text}
use Rattle.bus_picture.specs.TimeLines.{bus_rows, rows_of, rows_of_lanes}
use Rattle.bus_picture.proofs.LaneLemmas.{rows_both}
use Rattle.bus_picture.proofs.rows.put_rows.Goals as goal

pub returns : goal.returns
returns g c =
    subst (λ (list : List Entry). Adds g.K.Sink.held g.K.Sink.faults c.args.sink.now c.put_lanes.new.sink c.args.text.now c.put_lanes.new.text
    (rows_text c.args.scale.now c.args.subject.now.table.now list (rows_of c.args.lanes.now))) c.list-list.ensures.value
    (subst (λ (table : Table). Adds g.K.Sink.held g.K.Sink.faults c.args.sink.now c.put_lanes.new.sink c.args.text.now c.put_lanes.new.text
    (rows_text c.args.scale.now table c.list-list.result.now (rows_of c.args.lanes.now))) c.new-receivers.ensures
    (subst (λ (t : List ℕ). Adds g.K.Sink.held g.K.Sink.faults c.args.sink.now c.put_lanes.new.sink c.args.text.now c.put_lanes.new.text t)
    (sym (rows_both c.args.scale.now c.new-receivers.result c.list-list.result.now bus_rows (rows_of_lanes c.args.lanes.now)))
    (c.put_rows_at.ensures ▸ c.put_lanes.ensures)))
