use Rattle.bus_outer.proofs.TextLaws.{◌▸◌}
use Rattle.bus_dump.proofs.save_file.put_bus.Goals as goal

pub returns : goal.returns
returns g c =
    c.put.ensures ▸ c.put_shown.ensures ▸ c.put-2.ensures ▸ c.put_shown-2.ensures ▸ c.put_shown-3.ensures ▸ c.put-3.ensures ▸ c.put_shown-4.ensures
    ▸ c.put-4.ensures ▸ c.put_shown-5.ensures
