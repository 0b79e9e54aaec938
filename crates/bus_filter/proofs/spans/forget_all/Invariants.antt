use Rattle.bus_filter.proofs.SpanLemmas.{AreLeft}
use Rattle.bus_filter.proofs.spans.forget_all.Given as goal

-- the lines so far are taken out
abbrev pub invariant-loop-line : goal.invariant-loop-line
invariant-loop-line l = AreLeft l.takes l.line-index l.spans.first l.spans.behind
