use Rattle.bus_outer.proofs.TextLaws.{◌▸◌}
use Rattle.bus_explain.proofs.senders.put_last_columns.Goals as goal

pub returns : goal.returns
returns g c =
    c.put_time_columns.ensures ▸ c.put_time_columns-2.ensures ▸ c.put_time_columns-3.ensures ▸ c.put.ensures
