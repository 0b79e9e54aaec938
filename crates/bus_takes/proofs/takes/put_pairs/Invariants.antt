use Rattle.std.proofs.Common.{take}
use Rattle.std.specs.List.{flat_map}
use Rattle.bus_outer.specs.Texts.{Adds}
use Rattle.bus_takes.specs.Takes.{pair_text}
use Rattle.bus_takes.proofs.takes.put_pairs.Given as goal

abbrev pub invariant-loop-send : goal.invariant-loop-send
invariant-loop-send g l =
    Adds g.K.Sink.held g.K.Sink.faults l.fn.sink l.sink l.fn.text l.text (flat_map (pair_text l.number l.take l.other) (take l.send-index l.sends))
