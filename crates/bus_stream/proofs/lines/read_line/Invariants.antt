use Rattle.std.proofs.Common.{◌≡◌, ◌≤◌, ◌-◌, vec_len}
use Rattle.bus_outer.specs.Sources.{Taken}
use Rattle.bus_stream.specs.Lines.{HasNoFeed, line_limit}
use Rattle.bus_stream.proofs.lines.read_line.Given as goal

-- the bytes so far came from the front, are of one line, and no fault was counted
abbrev pub invariant-loop-piece : goal.invariant-loop-piece
invariant-loop-piece g l = record {
  taken : Taken (g.S.Source.left l.initial.source) (g.S.Source.left l.source) l.line.items;
  none : HasNoFeed l.line.items;
  fits : vec_len l.line ≤ line_limit;
  same : g.S.Source.faults l.source ≡ g.S.Source.faults l.initial.source;
}

abbrev pub decreases-loop-piece : goal.decreases-loop-piece
decreases-loop-piece g l = line_limit - vec_len l.line
