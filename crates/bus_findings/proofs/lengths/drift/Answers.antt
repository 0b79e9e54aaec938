use Rattle.std.proofs.Common.{arith, ◌≡◌, ◌≤◌, ap}
use Rattle.bus_bounds.specs.Bounds.{drift}
use Rattle.bus_bounds.proofs.BoundLaws.{drift_within}
use Rattle.bus_findings.proofs.lengths.drift.Goals as goal

pub returns-clause-bound : goal.returns-clause-bound
returns-clause-bound c =
    let within : drift c.args.bounds.clocks c.args.bits ≤ c.args.bits = drift_within c.args.bounds.clocks c.args.bits c.jitter.ensures.ranges.clocks in
    let same : drift c.args.bounds.clocks c.from-length.result ≡ drift c.args.bounds.clocks c.args.bits = ap (drift c.args.bounds.clocks) c.from-length.ensures in
    omega (arith, within, same, c.error.ensures.value, c.jitter.ensures.value)
