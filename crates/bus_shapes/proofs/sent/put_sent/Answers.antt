use Rattle.bus_outer.proofs.TextLaws.{◌▸◌}
use Rattle.bus_shapes.proofs.sent.put_sent.Goals as goal

pub returns : goal.returns
returns g c =
    c.put_byte.ensures ▸ c.put_number.ensures ▸ c.put.ensures ▸ c.put_number-2.ensures ▸ c.put-2.ensures ▸ c.put_number-3.ensures
    ▸ c.put-3.ensures ▸ c.put_number-4.ensures ▸ c.put-4.ensures ▸ c.put_number-5.ensures ▸ c.put-5.ensures
    ▸ c.put_decimal_microseconds.ensures ▸ c.put-6.ensures ▸ c.put_decimal_microseconds-2.ensures ▸ c.put-7.ensures ▸ c.put_garbled.ensures
