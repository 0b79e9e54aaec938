use Rattle.std.proofs.Common.{arith, length, ap}
use Rattle.bus_table.proofs.FitLaws.{longest_length}
use Rattle.bus_table.specs.Lengths.{words_at_most}
use Rattle.bus_table.proofs.lengths.longest.Goals as goal

pub returns-clause-message : goal.returns-clause-message
returns-clause-message c = λ message h.
    omega (arith, longest_length c.args.sender.now message h, c.words_at_most.ensures, ap words_at_most c.sends-sends.ensures.value, ap length c.sends-sends.ensures.value)
