use Rattle.std.proofs.Common.{◌≡◌, ◌∙◌, List, ℕ, ap, subst}
use Rattle.std.specs.List.{AllByRecursion}
use Rattle.bus_outer.specs.Sinks.{WritesText}
use Rattle.bus_outer.proofs.TextLaws.{◌▸◌, ends_text}
use Rattle.bus_strings.specs.Items.{Item, IsItem}
use Rattle.bus_strings.specs.Canonical.{messages_text}
use Rattle.bus_strings.specs.inside.Puts.{messages_bytes}
use Rattle.bus_strings.proofs.CanonicalLemmas.{messages_put, messages_text_is}
use Rattle.bus_strings.proofs.writing.write_messages.Goals as goal

pub returns-clause-written : goal.returns-clause-written
returns-clause-written g c =
    let items : messages_bytes c.deref.result.now ≡ messages_text c.args.payloads.now = ap messages_bytes (c.deref.ensures.value ∙ c.payloads.view_is) ∙ messages_put c.args.payloads.now in
    subst (λ (text : List ℕ). WritesText g.K.Sink.held g.K.Sink.faults c.args.sink.now c.finish.new.sink c.finish.result text) items
    (ends_text g.K.Sink.held g.K.Sink.faults c.args.sink.now c.put_items.new.sink c.finish.new.sink c.new-text.result c.put_items.new.text c.finish.result _ c.finish.ensures (c.put.ensures ▸ c.put_items.ensures) c.new-text.ensures)

pub returns-clause-again : goal.returns-clause-again
returns-clause-again g c = messages_text_is c.args.payloads.now (subst (λ (items : List Item). AllByRecursion IsItem items) c.payloads.view_is c.payloads.invariant)
