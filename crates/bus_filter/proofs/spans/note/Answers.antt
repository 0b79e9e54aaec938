use Rattle.std.proofs.Common.{refl, sym, ap, ◌∙◌}
use Rattle.std.proofs.lemmas.Option.{slice_get_read}
use Rattle.bus_table.specs.declared.line.TakeLine.{TakeLine}
use Rattle.bus_filter.proofs.SpanLemmas.{note_spanned}
use Rattle.bus_filter.proofs.spans.note.Goals as goal

pub returns : goal.returns
returns c =
    note_spanned c.args.takes.now c.args.index c.index-takes-index.result c.args.spans.now.first c.args.spans.now.behind c.from-label.result
    c.first_index.result c.value.result (slice_get_read c.args.takes.now _ c.args.index c.index-takes-index.result refl c.requires.within c.index-takes-index.is)
    (c.from-label.ensures ∙ c.value.ensures.value ∙ ap (λ (line : TakeLine). line.label) (sym c.index-takes-index.is)) c.from-label.ensures
    c.value.ensures.range c.first_index.ensures.none c.first_index.ensures.some c.requires.before
