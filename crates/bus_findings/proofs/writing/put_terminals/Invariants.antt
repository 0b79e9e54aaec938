use Rattle.std.specs.List.{flat_map}
use Rattle.std.proofs.Common.{take}
use Rattle.bus_outer.specs.Texts.{Adds}
use Rattle.bus_findings.specs.Texts.{terminal_line}
use Rattle.bus_findings.proofs.writing.put_terminals.Given as goal

-- the lines of the senders so far
abbrev pub invariant-loop-k : goal.invariant-loop-k
invariant-loop-k g l =
    Adds g.K.Sink.held g.K.Sink.faults l.fn.sink l.sink l.fn.text l.text (flat_map (terminal_line l.fn.bounds l.table l.trace.list) (take l.k l.senders))
