use Rattle.std.proofs.Common.{List, ℕ, ◌++◌, ◌+◌, ◌-◌, ◌*◌, ◌/◌, ap, codes, subst, ◌∙◌}
use Rattle.std.specs.Prelude.{decimal}
use Rattle.bus_outer.specs.Texts.{Adds}
use Rattle.bus_outer.proofs.TextLaws.{◌▸◌}
use Rattle.bus_page.specs.Latencies.{label_fields, latency_fields, next_field, words_fields}
use Rattle.bus_page.proofs.latencies.put_row.Goals as goal

pub returns : goal.returns
returns g c =
    let text : ℕ → List ℕ = λ n. codes "<tr><td>" ++ label_fields n c.args.line.now ++ next_field ++ words_fields c.args.line.now ++ next_field ++ latency_fields c.args.table.now c.args.most c.args.tolerance c.args.sender.now c.args.place ++ codes "</td></tr>\n" in
    subst (λ (t : List ℕ). Adds g.K.Sink.held g.K.Sink.faults c.args.sink.now c.put-2.new.sink c.args.text.now c.put-2.new.self t)
    (ap (λ (x : ℕ). text x) (c.number.ensures.value))
    (c.put.ensures ▸ c.put_label.ensures ▸ c.put_next.ensures ▸ c.put_count.ensures ▸ c.put_next-2.ensures ▸ c.put_latency.ensures ▸ c.put-2.ensures)
