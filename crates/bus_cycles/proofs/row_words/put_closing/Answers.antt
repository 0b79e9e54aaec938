use Rattle.bus_outer.proofs.TextLaws.{◌▸◌}
use Rattle.bus_cycles.proofs.row_words.put_closing.Goals as goal

pub returns : goal.returns
returns g c = c.put_row_words.ensures ▸ c.put_ends.ensures ▸ c.put_cut_before.ensures ▸ c.put_cut_behind.ensures
