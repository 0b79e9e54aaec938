use Rattle.std.proofs.Common.{◌*◌, take}
use Rattle.std.specs.List.{flat_map}
use Rattle.bus_outer.specs.Texts.{Adds}
use Rattle.bus_filter.specs.ReceivedTexts.{word_text}
use Rattle.bus_filter.proofs.writing.put_fours.Given as goal

-- the words of the fours so far are put
abbrev pub invariant-loop-k : goal.invariant-loop-k
invariant-loop-k g l = Adds g.K.Sink.held g.K.Sink.faults l.fn.sink l.sink l.fn.text l.text (flat_map word_text (take (4 * l.k) l.words))
