use Rattle.std.proofs.Common.{take}
use Rattle.std.specs.List.{AllByRecursion}
use Rattle.bus_trace.specs.Traces.{IsHold, AscendAbove}
use Rattle.bus_trace.proofs.valid.are_holds.Given as goal

-- those so far are holds, and ascend
abbrev pub invariant-loop-i : goal.invariant-loop-i
invariant-loop-i l = record {
  holds : AllByRecursion IsHold (take l.i l.holds);
  ascend : AscendAbove 0 (take l.i l.holds);
}
