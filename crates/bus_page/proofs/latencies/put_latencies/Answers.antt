use Rattle.std.proofs.Common.{List, ℕ, ◌++◌, ◌+◌, ◌-◌, ◌*◌, ◌/◌, ap, codes, subst, ◌∙◌}
use Rattle.std.specs.Prelude.{decimal}
use Rattle.bus_outer.specs.Texts.{Adds}
use Rattle.bus_outer.proofs.TextLaws.{◌▸◌}
use Rattle.std.specs.List.{flat_map}
use Rattle.bus_table.specs.Tables.{Sender}
use Rattle.bus_page.specs.Latencies.{columns_text, sender_rows}
use Rattle.bus_page.proofs.latencies.put_latencies.Goals as goal

pub returns : goal.returns
returns g c =
    let text : List ℕ → List Sender → List ℕ = λ a l. a ++ flat_map (sender_rows c.args.table.now c.args.most c.args.tolerance) l ++ codes "</tbody>\n</table>\n" in
    subst (λ (t : List ℕ). Adds g.K.Sink.held g.K.Sink.faults c.args.sink.now c.put-2.new.sink c.args.text.now c.put-2.new.self t)
    (ap (λ (x : List ℕ). text x c.senders-senders.result.now) (c.columns.ensures)
    ∙ ap (λ (x : List Sender). text columns_text x) (c.senders-senders.ensures.value))
    (c.put.ensures ▸ c.put_senders.ensures ▸ c.put-2.ensures)
