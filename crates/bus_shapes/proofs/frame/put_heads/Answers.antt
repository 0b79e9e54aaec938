use Rattle.bus_outer.proofs.TextLaws.{◌▸◌}
use Rattle.bus_shapes.proofs.frame.put_heads.Goals as goal

pub returns : goal.returns
returns g c =
    rw c.verdict_class.ensures at
    ((c.begin_words.ensures ▸ c.put_verdict_heading.ensures ▸ c.end_words.ensures)
    ▸ (c.begin_words-2.ensures ▸ c.put_told_heading.ensures ▸ c.end_words-2.ensures))
