use Rattle.bus_outer.proofs.Standings.{sends_part}
use Rattle.bus_outer.proofs.text_buffer.send.Goals as goal

pub returns-in-Err : goal.returns-in-Err
returns-in-Err g c = rw c.if-failed.false (sends_part _ _ _ _ _ _ c.in-Err.ensures)
