use Rattle.bus_outer.proofs.TextLaws.{◌▸◌}
use Rattle.bus_say.proofs.times.put_time.Goals as goal

pub returns : goal.returns
returns g c =
    c.put_number.ensures ▸ c.put_bit_times.ensures ▸ c.put.ensures ▸ c.put_microseconds.ensures ▸ c.put_microseconds_unit.ensures
    ▸ c.put-2.ensures
