use Rattle.std.proofs.Common.{◌≡◌, ◌++◌, drop}
use Rattle.bus_options.specs.Ages.{ages_in}
use Rattle.bus_options.specs.Words.{words_of}
use Rattle.bus_options.proofs.ages.ages_of.Given as goal

abbrev pub invariant-loop-place : goal.invariant-loop-place
invariant-loop-place l = l.ages.items ++ ages_in (drop l.place (words_of l.words)) ≡ ages_in (words_of l.words)
