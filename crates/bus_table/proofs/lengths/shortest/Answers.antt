use Rattle.std.proofs.Common.{arith, length, ap}
use Rattle.bus_table.proofs.FitLaws.{shortest_length}
use Rattle.bus_table.specs.Lengths.{words_at_least}
use Rattle.bus_table.proofs.lengths.shortest.Goals as goal

pub returns-clause-message : goal.returns-clause-message
returns-clause-message c = λ message h.
    omega (arith, shortest_length c.args.sender.now message h, c.words_at_least.ensures, ap words_at_least c.sends-sends.ensures.value, ap length c.sends-sends.ensures.value)
