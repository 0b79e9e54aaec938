use Rattle.std.specs.Prelude.{min}
use Rattle.std.proofs.Common.{◌≡◌, ap, subst, ◌∙◌}
use Rattle.bus_outer.specs.Texts.{Adds}
use Rattle.bus_outer.proofs.TextLaws.{adds_then}
use Rattle.bus_findings.specs.Recorded.{settled_of}
use Rattle.bus_findings.specs.Terminals.{first_count, garbled_count, silent_count, totals_among}
use Rattle.bus_findings.specs.Texts.{unjudged_line, totals_line}
use Rattle.bus_findings.proofs.writing.put_closing.Goals as goal

pub returns : goal.returns
returns g c =
    let bounds = c.args.bounds in
    let table = c.args.table.now in
    let trace = c.args.trace.now in
    let until : c.min-until.result ≡ min (settled_of bounds table) trace.horizon =
    c.min-until.ensures ∙ ap (λ n. min n c.horizon.result) c.settled.ensures.value ∙ ap (min (settled_of bounds table)) c.horizon.ensures.value in
    let unjudged : unjudged_line c.min-until.result c.first_count.result ≡ unjudged_line (min (settled_of bounds table) trace.horizon) (first_count table trace) =
    ap (λ n. unjudged_line n c.first_count.result) until ∙ ap (unjudged_line (min (settled_of bounds table) trace.horizon)) c.first_count.ensures in
    let garbled : c.garbled_count.result ≡ garbled_count trace.list = c.garbled_count.ensures ∙ ap garbled_count c.list.ensures.value in
    let totals : totals_line c.args.totals c.garbled_count.result c.put_silences-silent.result
    ≡ totals_line (totals_among bounds table trace.list trace.list) (garbled_count trace.list) (silent_count bounds table trace) =
    ap (λ t. totals_line t c.garbled_count.result c.put_silences-silent.result) c.requires.totals
    ∙ ap (λ n. totals_line (totals_among bounds table trace.list trace.list) n c.put_silences-silent.result) garbled
    ∙ ap (totals_line (totals_among bounds table trace.list trace.list) (garbled_count trace.list)) c.put_silences-silent.ensures.count in
    let third = subst (λ b. Adds g.K.Sink.held g.K.Sink.faults c.put_terminals.new.sink c.put_unjudged.new.sink c.put_terminals.new.text c.put_unjudged.new.text b) unjudged c.put_unjudged.ensures in
    let last = subst (λ b. Adds g.K.Sink.held g.K.Sink.faults c.put_unjudged.new.sink c.put_totals.new.sink c.put_unjudged.new.text c.put_totals.new.text b) totals c.put_totals.ensures in
    adds_then (adds_then (adds_then c.put_silences-silent.ensures.adds c.put_terminals.ensures) third) last
