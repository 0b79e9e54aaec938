use Rattle.bus_outer.proofs.TextLaws.{◌▸◌}
use Rattle.bus_strings.proofs.shares.put_share.Goals as goal

pub returns : goal.returns
returns g c =
    c.put_number.ensures ▸ c.put.ensures ▸ c.put_number-2.ensures ▸ c.put-2.ensures
