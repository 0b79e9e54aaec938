use Rattle.std.specs.List.{flat_map}
use Rattle.std.proofs.Common.{take}
use Rattle.bus_outer.specs.Texts.{Adds}
use Rattle.bus_watch.specs.Streams.{unheard_of}
use Rattle.bus_watch.proofs.state.State.put_each_unheard.Given as goal

-- those of the senders so far
abbrev pub invariant-loop-k : goal.invariant-loop-k
invariant-loop-k g l =
    Adds g.K.Sink.held g.K.Sink.faults l.fn.sink l.sink l.fn.text l.text (flat_map (unheard_of l.self l.line l.time) (take l.k l.senders))
