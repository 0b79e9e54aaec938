use Rattle.std.proofs.Common.{List, [], ◌∷◌, ◌++◌, ap, ◌∙◌}
use Rattle.bus_table.specs.Tables.{Listener}
use Rattle.bus_vectors.specs.Made.{made_cycle, made_senders, made_listener, made_table}
use Rattle.bus_vectors.proofs.TableLemmas.{table_made, is_some_of, unwrapped}
use Rattle.bus_vectors.proofs.tables.table.Goals as goal

pub unwrap-requires : goal.unwrap-requires
unwrap-requires c =
    is_some_of c.new.result (made_table c.args.number)
    (table_made c.args.number c.cycle-ti.result c.in_ok-senders.senders.items c.push.new.self.items c.new.result
    (c.in_ok-senders.ensures ∙ ap made_senders c.sender_count-count.ensures.count)
    (c.in_ok-push.ensures.items ∙ ap (λ (ls : List Listener). ls ++ c.in_ok-listener.field-0 ∷ []) c.in_ok-listeners.ensures.items
    ∙ ap (λ (l : Listener). l ∷ []) (c.in_ok-listener.ensures ∙ ap made_listener c.sender_count-count.ensures.count))
    (c.cycle-ti.ensures ∙ ap made_cycle c.deref.ensures.value) c.new.ensures)

pub returns : goal.returns
returns c =
    unwrapped c.new.result c.unwrap.result (made_table c.args.number)
    (table_made c.args.number c.cycle-ti.result c.in_ok-senders.senders.items c.push.new.self.items c.new.result
    (c.in_ok-senders.ensures ∙ ap made_senders c.sender_count-count.ensures.count)
    (c.in_ok-push.ensures.items ∙ ap (λ (ls : List Listener). ls ++ c.in_ok-listener.field-0 ∷ []) c.in_ok-listeners.ensures.items
    ∙ ap (λ (l : Listener). l ∷ []) (c.in_ok-listener.ensures ∙ ap made_listener c.sender_count-count.ensures.count))
    (c.cycle-ti.ensures ∙ ap made_cycle c.deref.ensures.value) c.new.ensures) c.unwrap.ensures
