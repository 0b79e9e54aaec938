use Rattle.bus_outer.proofs.TextLaws.{◌▸◌}
use Rattle.bus_dump.proofs.save_file.show_lane.Goals as goal

pub returns : goal.returns
returns g c =
    c.put_group_mark.ensures ▸ c.put_title.ensures ▸ c.put_byte.ensures ▸ c.put_messages.ensures ▸ c.put_timers_of.ensures ▸ c.end_group.ensures
