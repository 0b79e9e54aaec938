use Rattle.bus_filter.specs.inside.Keys.{AreSpans}
use Rattle.bus_filter.proofs.spans.note_all.Given as goal

-- the lines so far are noted
abbrev pub invariant-loop-index : goal.invariant-loop-index
invariant-loop-index l = AreSpans l.takes l.index l.spans.first l.spans.behind
