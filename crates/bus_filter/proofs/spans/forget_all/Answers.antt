use Rattle.std.proofs.Common.{refl, sym, ap, ◌∙◌}
use Rattle.std.proofs.lemmas.Option.{slice_get_read}
use Rattle.bus_table.specs.declared.line.TakeLine.{TakeLine}
use Rattle.bus_filter.proofs.SpanLemmas.{all_left, forget_left, none_left}
use Rattle.bus_filter.proofs.spans.forget_all.Goals as goal

pub loop-line-init : goal.loop-line-init
loop-line-init c = all_left c.args.takes.now c.args.spans.now.first c.args.spans.now.behind c.requires

pub loop-line-preserved : goal.loop-line-preserved
loop-line-preserved c =
    forget_left c.args.takes.now c.loop-line.line-index c.line-item.result c.loop-line.spans.first c.loop-line.spans.behind c.from-label.result c.value.result
    (slice_get_read c.args.takes.now _ c.loop-line.line-index c.line-item.result refl c.loop-line-test.true c.line-item.is)
    (c.from-label.ensures ∙ c.value.ensures.value) c.from-label.ensures c.value.ensures.range c.loop-line.invariant

pub returns : goal.returns
returns c = none_left c.args.takes.now c.loop-line.line-index c.loop-line.spans.first c.loop-line.spans.behind c.loop-line-test.false c.loop-line.invariant
