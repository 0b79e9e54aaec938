use Rattle.std.proofs.Common.{◌≡◌, max, drop, fold}
use Rattle.bus_strings.specs.Marking.{greatest_end}
use Rattle.bus_strings.specs.Messages.{Entry}
use Rattle.bus_strings.specs.Transmissions.{end_of}
use Rattle.bus_picture.proofs.load.last_end.Given as goal

abbrev pub invariant-loop-x : goal.invariant-loop-x
invariant-loop-x l = fold (λ end (x : Entry). max end (end_of x)) l.end (drop l.x-index l.list) ≡ greatest_end l.list
