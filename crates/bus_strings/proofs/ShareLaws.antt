-- How shares are rounded.
use Rattle.std.proofs.Common.{◌+◌, ◌*◌, ◌<◌, arith}
use Rattle.bus_strings.specs.Shares.{SharesAreNearest}

pub shares_are_nearest : SharesAreNearest
shares_are_nearest part whole some =
    let divided : 0 < 2 * whole = omega arith in
    let x = 2000 * part + whole in
    (omega (arith, divided), omega (arith, divided))
