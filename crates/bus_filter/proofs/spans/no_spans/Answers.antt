use Rattle.std.proofs.Common.{ℕ, set, subst, sym}
use Rattle.bus_filter.specs.inside.Keys.{AreNoSpans}
use Rattle.bus_filter.proofs.SpanLemmas.{none_spanned}
use Rattle.bus_filter.proofs.spans.no_spans.Goals as goal

pub returns : goal.returns
returns c =
    let first = c.blank-spans.result.first in
    let behind = c.blank-spans.result.behind in
    subst (λ (n : ℕ). AreNoSpans first (set behind n 1)) (sym c.from.ensures)
    (none_spanned first behind c.blank-spans.ensures.first_length c.blank-spans.ensures.behind_length c.blank-spans.ensures.first c.blank-spans.ensures.behind)
