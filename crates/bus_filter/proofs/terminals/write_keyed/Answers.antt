use Rattle.std.proofs.Common.{List, ℕ, subst}
use Rattle.bus_outer.specs.Texts.{Adds}
use Rattle.bus_outer.proofs.TextLaws.{◌▸◌, ends_text}
use Rattle.bus_filter.proofs.PutLemmas.{takers_put}
use Rattle.bus_filter.proofs.terminals.write_keyed.Goals as goal

pub returns : goal.returns
returns g c =
    let e = takers_put c.args.table.now c.args.list.now c.senders.result.now c.listeners.result.now c.senders.ensures.value c.listeners.ensures.value in
    ends_text g.K.Sink.held g.K.Sink.faults c.args.sink.now c.put-2.new.sink c.finish.new.sink c.new-text.result c.put-2.new.self c.finish.result _ c.finish.ensures
    (subst (λ (t : List ℕ). Adds g.K.Sink.held g.K.Sink.faults c.args.sink.now c.put-2.new.sink c.new-text.result c.put-2.new.self t) e
    (c.put.ensures ▸ c.put_senders.ensures.text ▸ c.put_listeners.ensures.text ▸ c.put-2.ensures)) c.new-text.ensures
