use Rattle.bus_outer.proofs.TextLaws.{◌▸◌}
use Rattle.bus_cycles.proofs.plot.put_whole.Goals as goal

pub returns : goal.returns
returns g c =
    c.put.ensures ▸ c.put_parted.ensures ▸ c.put-2.ensures ▸ c.put_parted-2.ensures ▸ c.put-3.ensures ▸ c.put_parted-3.ensures ▸ c.put-4.ensures
