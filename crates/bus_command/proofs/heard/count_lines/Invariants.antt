use Rattle.std.proofs.Common.{◌≡◌, ◌≤◌}
use Rattle.bus_command.proofs.CountLemmas.{HasCounted}
use Rattle.bus_command.proofs.heard.count_lines.Given as goal

-- so many lines came, in which so many are garbled
abbrev pub invariant-loop : goal.invariant-loop
invariant-loop g l = record {
  counted : HasCounted (g.S.Source.left l.initial.source) (g.S.Source.left l.source) l.counter l.garbled;
  low : l.garbled ≤ l.counter;
  same : g.S.Source.faults l.source ≡ g.S.Source.faults l.initial.source;
}
