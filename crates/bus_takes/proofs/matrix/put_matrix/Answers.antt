use Rattle.std.proofs.Common.{List, ℕ, ap, subst}
use Rattle.std.specs.List.{flat_map}
use Rattle.bus_outer.specs.Texts.{Adds}
use Rattle.bus_outer.proofs.TextLaws.{◌▸◌}
use Rattle.bus_takes.specs.Matrix.{column_text, listener_row, sender_row}
use Rattle.bus_takes.proofs.matrix.put_matrix.Goals as goal

pub returns : goal.returns
returns g c =
    c.put.ensures
    ▸ subst (λ (t : List ℕ). Adds g.K.Sink.held g.K.Sink.faults c.put.new.sink c.put_columns.new.sink c.put.new.self c.put_columns.new.text t)
    (ap (flat_map column_text) c.senders.ensures.value) c.put_columns.ensures
    ▸ c.put-2.ensures
    ▸ subst (λ (t : List ℕ). Adds g.K.Sink.held g.K.Sink.faults c.put-2.new.sink c.put_sender_rows.new.sink c.put-2.new.self c.put_sender_rows.new.text t)
    (ap (flat_map (sender_row c.args.table.now)) c.senders-2.ensures.value) c.put_sender_rows.ensures
    ▸ subst (λ (t : List ℕ). Adds g.K.Sink.held g.K.Sink.faults c.put_sender_rows.new.sink c.put_listener_rows.new.sink c.put_sender_rows.new.text c.put_listener_rows.new.text t)
    (ap (flat_map (listener_row c.args.table.now)) c.listeners.ensures.value) c.put_listener_rows.ensures
    ▸ c.put-3.ensures
