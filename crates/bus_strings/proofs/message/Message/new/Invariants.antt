use Rattle.std.proofs.Common.{take}
use Rattle.std.specs.List.{AllByRecursion}
use Rattle.bus_strings.specs.Messages.{IsWordstring}
use Rattle.bus_strings.proofs.message.Message.new.Given as goal

abbrev pub invariant-loop-string : goal.invariant-loop-string
invariant-loop-string l = AllByRecursion IsWordstring (take l.string-index l.string-items)
