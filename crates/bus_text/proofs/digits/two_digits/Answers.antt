use Rattle.std.proofs.Common.{arith}
use Rattle.bus_text.proofs.TableLemmas.{pair_at}
use Rattle.bus_text.proofs.digits.two_digits.Goals as goal

pub returns : goal.returns
returns c = rw c.from-at.ensures (pair_at c.args.byte (omega arith))
