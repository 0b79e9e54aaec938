use Rattle.std.proofs.Common.{take}
use Rattle.std.specs.List.{flat_map}
use Rattle.bus_outer.specs.Texts.{Adds}
use Rattle.bus_regime.specs.Gaps.{gaps}
use Rattle.bus_explain.specs.Senders.{offset_row}
use Rattle.bus_explain.proofs.senders.put_offsets.Given as goal

abbrev pub invariant-loop-k : goal.invariant-loop-k
invariant-loop-k g l =
    Adds g.K.Sink.held g.K.Sink.faults l.fn.sink l.sink l.fn.text l.text (flat_map offset_row (take l.k (gaps l.table)))
