use Rattle.std.proofs.Common.{◌≡◌, ◌==◌, take, None}
use Rattle.std.specs.List.{find}
use Rattle.bus_dump.specs.Timers.{Elapsed}
use Rattle.bus_dump.proofs.value.elapsed.Given as goal

abbrev pub invariant-loop-one : goal.invariant-loop-one
invariant-loop-one l = find (λ (e : Elapsed). e.terminal == l.terminal) (take l.one-index l.timers) ≡ None
