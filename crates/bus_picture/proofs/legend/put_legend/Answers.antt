use Rattle.bus_outer.proofs.TextLaws.{◌▸◌}
use Rattle.bus_picture.proofs.legend.put_legend.Goals as goal

pub returns : goal.returns
returns g c =
    (c.put.ensures ▸ c.put-2.ensures ▸ c.put-3.ensures)
    ▸ (c.put-4.ensures ▸ c.put-5.ensures ▸ c.put-6.ensures ▸ c.put-7.ensures ▸ c.put-8.ensures)
