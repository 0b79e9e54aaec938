use Rattle.bus_outer.proofs.TextLaws.{◌▸◌}
use Rattle.bus_pen.proofs.shapes.begin_words.Goals as goal

pub returns : goal.returns
returns g c =
    c.put.ensures ▸ c.put_name.ensures ▸ c.put-2.ensures ▸ c.put_number.ensures ▸ c.put-3.ensures ▸ c.put_number-2.ensures
    ▸ c.put-4.ensures
