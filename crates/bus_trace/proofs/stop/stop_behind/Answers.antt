use Rattle.std.proofs.Common.{rules, length, ap, ◌≡◌}
use Rattle.bus_trace.specs.Runs.{stream_of}
use Rattle.bus_trace.proofs.PieceLaws.{nothing_fed}
use Rattle.bus_trace.proofs.stop.stop_behind.Goals as goal

pub walk-requires : goal.walk-requires
walk-requires c =
    let empty : length (stream_of c.new-walk.result) ≡ 0 = ap length (nothing_fed c.new-walk.result c.new-walk.ensures) in
    search rules
