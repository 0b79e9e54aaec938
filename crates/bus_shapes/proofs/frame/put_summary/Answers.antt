use Rattle.bus_outer.proofs.TextLaws.{◌▸◌}
use Rattle.bus_shapes.proofs.frame.put_summary.Goals as goal

pub returns : goal.returns
returns g c =
    let one = rw c.from.ensures at c.put_parted.ensures in
    let other = rw c.from-2.ensures at c.put_parted-2.ensures in
    c.put_mode.ensures ▸ c.put.ensures ▸ one ▸ c.put-2.ensures ▸ other ▸ c.put-3.ensures ▸ c.put_counted.ensures
