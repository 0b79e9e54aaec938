use Rattle.std.proofs.Common.{arith, ◌+◌}
use Rattle.bus_regime.proofs.GapPlaces.{gap_told}
use Rattle.bus_regime.proofs.gaps.gap_at.Goals as goal

pub returns : goal.returns
returns c =
    gap_told c.args.table.now c.args.k c.gap_from.result (c.from.result + c.from-2.result) c.turn_at-sender.result.now c.turn_at-sender.ensures
    c.gap_from.ensures.value (omega (arith, c.from.ensures, c.from-2.ensures, c.ti.ensures.value, c.at.ensures.value))
