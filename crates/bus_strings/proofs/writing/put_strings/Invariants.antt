use Rattle.std.proofs.Common.{take}
use Rattle.std.specs.List.{flat_map}
use Rattle.bus_outer.specs.Texts.{Adds}
use Rattle.bus_strings.specs.Items.{numbers}
use Rattle.bus_strings.specs.inside.Puts.{string_bytes}
use Rattle.bus_strings.proofs.writing.put_strings.Given as goal

abbrev pub invariant-loop-string : goal.invariant-loop-string
invariant-loop-string g l = Adds g.K.Sink.held g.K.Sink.faults l.fn.sink l.sink l.fn.text l.text (flat_map string_bytes (numbers (take l.string-index l.strings)))
