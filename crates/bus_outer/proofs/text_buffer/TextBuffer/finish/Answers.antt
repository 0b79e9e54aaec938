use Rattle.bus_outer.proofs.Standings.{ends_ok, ends_err}
use Rattle.bus_outer.proofs.text_buffer.TextBuffer.finish.Goals as goal

pub returns-then-self : goal.returns-then-self
returns-then-self g c = ends_err _ _ _ _ _ _ _ c.drain.ensures.adds c.if-self.true

pub returns-else-self : goal.returns-else-self
returns-else-self g c = ends_ok _ _ _ _ _ _ _ c.drain.ensures.adds c.drain.ensures.empty c.if-self.false
