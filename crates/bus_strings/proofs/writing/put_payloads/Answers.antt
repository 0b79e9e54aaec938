use Rattle.std.proofs.Common.{◌≡◌, ◌∙◌, List, ℕ, ap, sym, subst, map}
use Rattle.std.specs.List.{flat_map}
use Rattle.bus_text.specs.Canonical.{spelled_lines}
use Rattle.bus_outer.specs.Texts.{Adds}
use Rattle.bus_strings.specs.Canonical.{item_fields}
use Rattle.bus_strings.specs.inside.Puts.{item_bytes}
use Rattle.bus_strings.proofs.CanonicalLemmas.{items_put}
use Rattle.bus_strings.proofs.writing.put_payloads.Goals as goal

pub returns : goal.returns
returns g c =
    let items : flat_map item_bytes c.deref.result.now ≡ spelled_lines (map item_fields c.args.payloads.now) = ap (flat_map item_bytes) (c.deref.ensures.value ∙ c.payloads.view_is) ∙ sym (items_put c.args.payloads.now) in
    subst (λ (text : List ℕ). Adds g.K.Sink.held g.K.Sink.faults c.args.sink.now c.put_items.new.sink c.args.text.now c.put_items.new.text text) items c.put_items.ensures
