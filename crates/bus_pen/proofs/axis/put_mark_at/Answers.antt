use Rattle.bus_outer.proofs.TextLaws.{◌▸◌}
use Rattle.bus_pen.proofs.axis.put_mark_at.Goals as goal

pub returns : goal.returns
returns g c =
    c.put_box.ensures ▸ (c.begin_words.ensures ▸ c.put_parted.ensures ▸ c.end_words.ensures)
