use Rattle.std.proofs.Common.{take}
use Rattle.std.specs.List.{flat_map}
use Rattle.bus_outer.specs.Texts.{Adds}
use Rattle.bus_pen.specs.Legends.{sample_text}
use Rattle.bus_pen.proofs.legend.put_samples.Given as goal

abbrev pub invariant-loop-sample : goal.invariant-loop-sample
invariant-loop-sample g l =
    Adds g.K.Sink.held g.K.Sink.faults l.fn.sink l.sink l.fn.text l.text (flat_map (sample_text l.top) (take l.sample-index l.samples))
