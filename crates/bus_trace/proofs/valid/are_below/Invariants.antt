use Rattle.std.proofs.Common.{take}
use Rattle.std.specs.List.{AllByRecursion}
use Rattle.bus_strings.specs.Transmissions.{IsAscending}
use Rattle.bus_trace.specs.Traces.{IsBelow}
use Rattle.bus_trace.proofs.valid.are_below.Given as goal

-- those so far are below the horizon, and ascend
abbrev pub invariant-loop-i : goal.invariant-loop-i
invariant-loop-i l = record {
  below : AllByRecursion (IsBelow l.horizon) (take l.i l.list);
  order : IsAscending (take l.i l.list);
}
