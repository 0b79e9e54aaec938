use Rattle.std.proofs.Common.{◌≡◌, take}
use Rattle.bus_dump.specs.Signals.{word_value, words}
use Rattle.bus_dump.proofs.value.word.Given as goal

abbrev pub invariant-loop-one : goal.invariant-loop-one
invariant-loop-one l = l.value ≡ word_value (words (take l.one-index l.seen))
