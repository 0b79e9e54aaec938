use Rattle.std.proofs.Common.{List, ℕ, ap, ◌∙◌, subst}
use Rattle.bus_outer.specs.Texts.{Adds}
use Rattle.bus_outer.proofs.TextLaws.{◌▸◌}
use Rattle.bus_table.specs.Lengths.{shortest, longest}
use Rattle.bus_table.specs.Tables.{Sender}
use Rattle.bus_explain.specs.Columns.{number_column, time_columns}
use Rattle.bus_explain.proofs.ColumnTexts.{same_last}
use Rattle.bus_explain.proofs.senders.put_offset.Goals as goal

pub returns : goal.returns
returns g c =
    let sender = c.sender-sender.ensures in
    let number = c.number.ensures.value ∙ ap (λ (s : Sender). s.number) sender in
    let at = c.at.ensures.value ∙ ap (λ (s : Sender). s.at) sender in
    let tg = c.tg.ensures.value ∙ ap (λ (s : Sender). s.tg) sender in
    let short = c.shortest.ensures.value ∙ ap shortest sender in
    let long = c.longest.ensures.value ∙ ap longest sender in
    subst (λ (t : List ℕ). Adds g.K.Sink.held g.K.Sink.faults c.args.sink.now c.put_number.new.sink c.args.text.now c.put_number.new.text t)
    (ap number_column number) c.put_number.ensures
    ▸ subst (λ (t : List ℕ). Adds g.K.Sink.held g.K.Sink.faults c.put_number.new.sink c.put_time_columns.new.sink c.put_number.new.text c.put_time_columns.new.text t)
    (ap time_columns at) c.put_time_columns.ensures
    ▸ subst (λ (t : List ℕ). Adds g.K.Sink.held g.K.Sink.faults c.put_time_columns.new.sink c.put_time_columns-2.new.sink c.put_time_columns.new.text c.put_time_columns-2.new.text t)
    (ap time_columns c.gap_bits.ensures) c.put_time_columns-2.ensures
    ▸ subst (λ (t : List ℕ). Adds g.K.Sink.held g.K.Sink.faults c.put_time_columns-2.new.sink c.put_last_columns.new.sink c.put_time_columns-2.new.text c.put_last_columns.new.text t)
    (same_last c.tg.result c.shortest.result c.longest.result _ _ _ tg short long) c.put_last_columns.ensures
