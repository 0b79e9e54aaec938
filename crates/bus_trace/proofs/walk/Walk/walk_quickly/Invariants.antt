use Rattle.std.proofs.Common.{◌≡◌, [], length}
use Rattle.bus_trace.proofs.Walks.{WalksTo}
use Rattle.bus_trace.proofs.walk.Walk.walk_quickly.Given as goal

abbrev pub invariant-loop-behind : goal.invariant-loop-behind
invariant-loop-behind l = record { walks : WalksTo l.fn.self l.self l.piece l.rest; empty : l.self.line ≡ [] }

abbrev pub decreases-loop-behind : goal.decreases-loop-behind
decreases-loop-behind l = length l.rest
