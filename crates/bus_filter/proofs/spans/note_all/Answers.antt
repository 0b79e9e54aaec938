use Rattle.bus_filter.proofs.SpanLemmas.{none_of}
use Rattle.bus_filter.proofs.spans.note_all.Goals as goal

pub loop-index-init : goal.loop-index-init
loop-index-init c = none_of c.args.takes.now c.args.spans.now.first c.args.spans.now.behind c.requires.none
