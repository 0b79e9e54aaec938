use Rattle.bus_filter.proofs.SpanLemmas.{span_at}
use Rattle.bus_filter.proofs.spans.lines_of.Goals as goal

pub returns-clause-all : goal.returns-clause-all
returns-clause-all c =
    span_at c.args.takes.now c.args.spans.now.first c.args.spans.now.behind c.args.label c.value.result c.from-label.result c.from.result c.from-2.result c.requires
    c.value.ensures.range c.value.ensures.value c.from-label.ensures c.from.ensures c.from-2.ensures
