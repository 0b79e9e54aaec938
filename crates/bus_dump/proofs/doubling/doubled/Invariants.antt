use Rattle.std.proofs.Common.{◌≡◌, length, None}
use Rattle.std.specs.List.{find, range_with_len}
use Rattle.bus_dump.specs.Doubled.{is_doubled}
use Rattle.bus_dump.proofs.DoubleLemmas.{KeepsEnds}
use Rattle.bus_dump.proofs.doubling.doubled.Given as goal

-- none of the entries so far is doubled, and it is kept until when each terminal sends
abbrev pub invariant-loop-k : goal.invariant-loop-k
invariant-loop-k l = record {
  none : find (is_doubled l.list) (range_with_len 0 l.k) ≡ None;
  long : length l.ends ≡ 129;
  keeps : KeepsEnds l.list l.ends l.k;
}
