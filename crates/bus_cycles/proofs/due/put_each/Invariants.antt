use Rattle.std.proofs.Common.{take}
use Rattle.bus_outer.specs.Texts.{Adds}
use Rattle.bus_cycles.specs.Dues.{each_due}
use Rattle.bus_cycles.proofs.due.put_each.Given as goal

abbrev pub invariant-loop-sender : goal.invariant-loop-sender
invariant-loop-sender g l =
    Adds g.K.Sink.held g.K.Sink.faults l.fn.sink l.sink l.fn.text l.text (each_due l.page l.holds l.begins (take l.sender-index l.senders))
