use Rattle.std.proofs.Common.{◌∙◌, sym, append-nil}
use Rattle.bus_outer.proofs.Standings.{adds_sent}
use Rattle.bus_outer.proofs.text_buffer.TextBuffer.drain.Goals as goal

pub returns-clause-adds : goal.returns-clause-adds
returns-clause-adds g c = adds_sent _ _ _ _ _ _ _ _ c.send-self.ensures (c.bytes.ensures ∙ sym (append-nil _)) c.clear.ensures
