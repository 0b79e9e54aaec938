use Rattle.bus_outer.proofs.TextLaws.{◌▸◌}
use Rattle.bus_pen.proofs.legend.put_note.Goals as goal

pub returns-then-there : goal.returns-then-there
returns-then-there g c = rw c.if-there.true (c.put_samples.ensures ▸ rw c.from.ensures at c.put_words.ensures)
