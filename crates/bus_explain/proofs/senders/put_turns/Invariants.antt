use Rattle.std.proofs.Common.{take}
use Rattle.std.specs.List.{flat_map}
use Rattle.bus_outer.specs.Texts.{Adds}
use Rattle.bus_table.specs.Turns.{turn_order}
use Rattle.bus_explain.specs.Senders.{turn_row}
use Rattle.bus_explain.proofs.senders.put_turns.Given as goal

abbrev pub invariant-loop-k : goal.invariant-loop-k
invariant-loop-k g l =
    Adds g.K.Sink.held g.K.Sink.faults l.fn.sink l.sink l.fn.text l.text (flat_map turn_row (take l.k (turn_order l.table)))
