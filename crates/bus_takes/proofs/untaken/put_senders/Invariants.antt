use Rattle.std.proofs.Common.{take}
use Rattle.std.specs.List.{flat_map}
use Rattle.bus_outer.specs.Texts.{Adds}
use Rattle.std.specs.List.{flat_map}
use Rattle.bus_takes.specs.Takes.{sends_text}
use Rattle.bus_takes.proofs.untaken.put_senders.Given as goal

abbrev pub invariant-loop-sender : goal.invariant-loop-sender
invariant-loop-sender g l =
    Adds g.K.Sink.held g.K.Sink.faults l.fn.sink l.sink l.fn.text l.text (flat_map (sends_text l.table) (take l.sender-index l.senders))
