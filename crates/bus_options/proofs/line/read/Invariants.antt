use Rattle.std.proofs.Common.{◌≡◌, drop}
use Rattle.bus_options.specs.Options as definition
use Rattle.bus_options.specs.Words.{words_of}
use Rattle.bus_options.proofs.line.read.Given as goal

abbrev pub invariant-loop-place : goal.invariant-loop-place
invariant-loop-place l =
    definition.read l.reading l.place (drop l.place (words_of l.words)) ≡ definition.read definition.start l.fn.from (drop l.fn.from (words_of l.fn.words))
