use Rattle.std.proofs.Common.{◌≡◌, take}
use Rattle.bus_strings.proofs.message.copy_message.Given as goal

abbrev pub invariant-loop-string : goal.invariant-loop-string
invariant-loop-string l = l.strings.items ≡ take l.string-index l.from
