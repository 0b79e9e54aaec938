use Rattle.bus_outer.proofs.TextLaws.{◌▸◌, adds_nothing}
use Rattle.bus_picture.proofs.rows.put_rows_at.Goals as goal

pub returns : goal.returns
returns g c =
    c.put_row.ensures
    ▸ (c.put_row-2.ensures ▸ adds_nothing g.K.Sink.held g.K.Sink.faults c.put_row-2.new.sink c.put_row-2.new.text)
