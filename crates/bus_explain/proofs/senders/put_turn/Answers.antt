use Rattle.std.proofs.Common.{List, ℕ, ap, subst}
use Rattle.bus_outer.specs.Texts.{Adds}
use Rattle.bus_outer.proofs.TextLaws.{◌▸◌}
use Rattle.bus_explain.specs.Columns.{number_column}
use Rattle.bus_explain.proofs.ColumnTexts.{same_last}
use Rattle.bus_explain.proofs.senders.put_turn.Goals as goal

pub returns : goal.returns
returns g c =
    subst (λ (t : List ℕ). Adds g.K.Sink.held g.K.Sink.faults c.args.sink.now c.put_number.new.sink c.args.text.now c.put_number.new.text t)
    (ap number_column c.number.ensures.value) c.put_number.ensures
    ▸ subst (λ (t : List ℕ). Adds g.K.Sink.held g.K.Sink.faults c.put_number.new.sink c.put_last_columns.new.sink c.put_number.new.text c.put_last_columns.new.text t)
    (same_last c.tg.result c.shortest.result c.longest.result _ _ _ c.tg.ensures.value c.shortest.ensures.value c.longest.ensures.value)
    c.put_last_columns.ensures
