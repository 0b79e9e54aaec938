use Rattle.std.proofs.Common.{arith, sym}
use Rattle.bus_text.proofs.FieldLemmas.{four_front}
use Rattle.bus_text.proofs.split.Fields.next_four.Goals as goal

pub returns-clause-some : goal.returns-clause-some
returns-clause-some c = rw (sym c.self.view_is) (four_front c.self.inside.rest.now c.in_ok-number.number (omega (arith, c.in-len5-up.len_at_least)) (omega (arith, c.if-behind-ne32.false)) c.in_ok-number.ensures)
