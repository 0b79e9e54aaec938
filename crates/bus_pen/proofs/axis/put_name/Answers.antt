use Rattle.bus_outer.proofs.TextLaws.{◌▸◌}
use Rattle.bus_pen.proofs.axis.put_name.Goals as goal

pub returns : goal.returns
returns g c =
    c.begin_words.ensures ▸ c.put_unit.ensures ▸ c.end_words.ensures
