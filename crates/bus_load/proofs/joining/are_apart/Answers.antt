use Rattle.std.proofs.Common.{arith}
use Rattle.bus_load.proofs.JoinLemmas.{apart_by_steps}
use Rattle.bus_load.proofs.joining.are_apart.Goals as goal

pub returns : goal.returns
returns c told = apart_by_steps c.args.stretches.now c.requires.some (λ k d h. c.loop-k.invariant k d (omega arith))
