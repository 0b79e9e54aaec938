use Rattle.std.proofs.Common.{◌≡◌, ◌≤◌, ◌-◌, vec_len}
use Rattle.bus_outer.specs.Sources.{Taken}
use Rattle.bus_outer.proofs.whole.read_whole.Given as goal

-- what has been read so far came from the front, and no fault was counted
abbrev pub invariant-pieces : goal.invariant-pieces
invariant-pieces g l = record {
  taken : Taken (g.S.Source.left l.initial.source) (g.S.Source.left l.source) l.bytes.items;
  fits : vec_len l.bytes ≤ l.limit;
  same : g.S.Source.faults l.source ≡ g.S.Source.faults l.initial.source;
}

abbrev pub decreases-pieces : goal.decreases-pieces
decreases-pieces g l = l.limit - vec_len l.bytes
