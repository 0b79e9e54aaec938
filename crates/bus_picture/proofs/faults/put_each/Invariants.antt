use Rattle.std.specs.List.{flat_map}
use Rattle.std.proofs.Common.{take}
use Rattle.bus_outer.specs.Texts.{Adds}
use Rattle.bus_picture.specs.Faults.{fault_text, faults}
use Rattle.bus_picture.proofs.faults.put_each.Given as goal

-- the marks of those so far
abbrev pub invariant-loop-i : goal.invariant-loop-i
invariant-loop-i g l =
    Adds g.K.Sink.held g.K.Sink.faults l.fn.sink l.sink l.fn.text l.text
    (flat_map (fault_text l.scale l.near l.lanes) (faults l.scale (take l.i l.list) l.judgements))
