use Rattle.std.proofs.Common.{◌≡◌, take, None}
use Rattle.std.specs.List.{find}
use Rattle.bus_dump.specs.Signals.{is_of}
use Rattle.bus_dump.proofs.value.message.Given as goal

abbrev pub invariant-loop-one : goal.invariant-loop-one
invariant-loop-one l = find (is_of l.terminal) (take l.one-index l.seen) ≡ None
