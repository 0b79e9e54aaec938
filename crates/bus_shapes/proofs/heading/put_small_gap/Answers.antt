use Rattle.std.proofs.Common.{w64}
use Rattle.std.proofs.lemmas.Int.{to_z-of_z}
use Rattle.bus_outer.proofs.TextLaws.{◌▸◌}
use Rattle.bus_shapes.proofs.heading.put_small_gap.Goals as goal

pub returns : goal.returns
returns g c =
    let signed = rw (to_z-of_z w64 c.args.gap c.ranges.gap) at c.put_signed.ensures in
    c.put.ensures ▸ c.put_number.ensures ▸ c.put-2.ensures ▸ signed ▸ c.put-3.ensures ▸ c.put_parted.ensures
