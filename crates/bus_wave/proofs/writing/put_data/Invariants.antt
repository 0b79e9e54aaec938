use Rattle.std.proofs.Common.{take}
use Rattle.bus_outer.specs.Texts.{Adds}
use Rattle.bus_wave.specs.inside.Puts.{data_put}
use Rattle.bus_wave.proofs.writing.put_data.Given as goal

abbrev pub invariant-loop-word : goal.invariant-loop-word
invariant-loop-word g l = Adds g.K.Sink.held g.K.Sink.faults l.fn.sink l.sink l.fn.text l.text (data_put (take l.word-index l.words))
