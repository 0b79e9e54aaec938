use Rattle.std.proofs.Common.{◌≡◌, ◌&&◌, take, None}
use Rattle.std.specs.List.{find}
use Rattle.bus_dump.specs.Signals.{is_of, is_on}
use Rattle.bus_dump.proofs.value.label.Given as goal

abbrev pub invariant-loop-one : goal.invariant-loop-one
invariant-loop-one l = find (λ s. is_of l.terminal s && is_on s) (take l.one-index l.seen) ≡ None
