use Rattle.std.proofs.Common.{◌≡◌, length}
use Rattle.std.specs.Prelude.{filter}
use Rattle.bus_cycles.specs.Sents.{is_shown}
use Rattle.bus_cycles.proofs.shown.ShownIterator.next.Given as goal

abbrev pub invariant-loop-sent : goal.invariant-loop-sent
invariant-loop-sent l = filter (is_shown l.self-inside.window.now) l.self-inside.sents ≡ l.fn.self

abbrev pub decreases-loop-sent : goal.decreases-loop-sent
decreases-loop-sent l = length l.self-inside.sents
