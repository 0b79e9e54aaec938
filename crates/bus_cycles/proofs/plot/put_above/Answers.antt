use Rattle.bus_outer.proofs.TextLaws.{◌▸◌}
use Rattle.bus_cycles.proofs.plot.put_above.Goals as goal

pub returns : goal.returns
returns g c =
    (c.begin_words.ensures ▸ c.put_row_words.ensures ▸ c.end_words.ensures) ▸ c.put_legend.ensures ▸ c.put_axes.ensures ▸ c.put_words.ensures
    ▸ c.put_words-2.ensures ▸ c.put_words-3.ensures ▸ c.put_words-4.ensures
