use Rattle.std.specs.List.{flat_map}
use Rattle.std.proofs.Common.{take}
use Rattle.bus_outer.specs.Texts.{Adds}
use Rattle.bus_watch.specs.Parts.{silent_lines}
use Rattle.bus_watch.proofs.part.Part.put_silences.Given as goal

-- those of the senders so far
abbrev pub invariant-loop-k : goal.invariant-loop-k
invariant-loop-k g l =
    Adds g.K.Sink.held g.K.Sink.faults l.fn.sink l.sink l.fn.text l.text (flat_map (silent_lines l.self l.line l.bit) (take l.k l.senders))
