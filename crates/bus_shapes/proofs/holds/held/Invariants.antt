use Rattle.std.proofs.Common.{◌≡◌, drop}
use Rattle.bus_audit.specs.Breaches.{held}
use Rattle.bus_shapes.proofs.holds.held.Given as goal

abbrev pub invariant-loop-hold : goal.invariant-loop-hold
invariant-loop-hold l = held (drop l.hold-index l.holds) l.terminal ≡ held l.holds l.terminal
