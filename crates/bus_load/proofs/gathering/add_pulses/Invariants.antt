use Rattle.std.proofs.Common.{◌+◌, ◌*◌, ◌<◌, ◌≤◌, drop}
use Rattle.std.specs.List.{All}
use Rattle.bus_load.specs.Loads.{Stretch}
use Rattle.bus_load.proofs.PulseLemmas.{Makes}
use Rattle.bus_load.proofs.gathering.add_pulses.Given as goal

abbrev pub invariant-loop-string : goal.invariant-loop-string
invariant-loop-string l = record {
  makes : Makes l.stretches.items (drop l.string-index l.string-items) l.from l.initial.stretches.items l.string-items l.x.moment;
  some : All (λ (s : Stretch). s.from < s.to) l.initial.stretches.items → All (λ (s : Stretch). s.from < s.to) l.stretches.items;
  low : l.from ≤ l.initial.from + 5144 * l.string-index;
}
