use Rattle.std.proofs.Common.{◌*◌, ◌≤◌}
use Rattle.bus_strings.proofs.PulsesAlongLaws.{IsSearched}
use Rattle.bus_strings.proofs.pulses.is_on.Given as goal

abbrev pub invariant-loop-string : goal.invariant-loop-string
invariant-loop-string l = record {
  searched : IsSearched l.string-items l.string-index l.begin l.d;
  bound : l.begin ≤ 5144 * l.string-index;
}
