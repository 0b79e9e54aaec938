use Rattle.std.proofs.Common.{arith, sym}
use Rattle.bus_table.proofs.FitLemmas.{matches_length}
use Rattle.bus_table.proofs.fit.strings_fit.Goals as goal

pub returns-then-sends-message : goal.returns-then-sends-message
returns-then-sends-message c = sym (matches_length c.args.sends.now c.args.message.now (λ e. absurd (omega (arith, e))))
