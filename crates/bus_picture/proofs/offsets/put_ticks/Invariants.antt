use Rattle.std.proofs.Common.{map}
use Rattle.std.specs.List.{flat_map, range_with_len}
use Rattle.bus_outer.specs.Texts.{Adds}
use Rattle.bus_picture.specs.Offsets.{offset_moment, rounds_before, tick_text}
use Rattle.bus_picture.proofs.offsets.put_ticks.Given as goal

abbrev pub invariant-loop-k : goal.invariant-loop-k
invariant-loop-k g l =
    Adds g.K.Sink.held g.K.Sink.faults l.fn.sink l.sink l.fn.text l.text
    (flat_map (tick_text l.scale l.top) (map (offset_moment l.ti l.at) (range_with_len (rounds_before l.ti l.at l.scale.from) l.k)))
