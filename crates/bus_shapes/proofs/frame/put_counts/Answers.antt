use Rattle.bus_outer.proofs.TextLaws.{◌▸◌}
use Rattle.bus_shapes.proofs.frame.put_counts.Goals as goal

pub returns : goal.returns
returns g c =
    c.put.ensures ▸ c.put_parted.ensures ▸ c.put-2.ensures ▸ c.put_parted-2.ensures ▸ c.put-3.ensures ▸ c.put_parted-3.ensures
    ▸ c.put-4.ensures ▸ c.put_counted.ensures ▸ c.put-5.ensures ▸ c.put_parted-4.ensures ▸ c.put-6.ensures ▸ c.put_as_sent.ensures
