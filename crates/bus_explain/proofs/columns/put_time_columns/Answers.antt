use Rattle.bus_outer.proofs.TextLaws.{◌▸◌}
use Rattle.bus_explain.proofs.columns.put_time_columns.Goals as goal

pub returns : goal.returns
returns g c = c.put_digits.ensures ▸ c.put_digits-2.ensures ▸ c.put_half.ensures
