use Rattle.std.proofs.Common.{arith}
use Rattle.bus_cycles.proofs.LaneLemmas.{all_lanes}
use Rattle.bus_cycles.proofs.page.lanes_of.Goals as goal

pub returns : goal.returns
returns c =
    all_lanes c.args.table.now c.loop-number.lanes c.loop-number.invariant.all (λ n h. c.loop-number.invariant.told n (omega (arith, h)))
