use Rattle.std.proofs.Common.{◌≡◌, ◌∙◌, ◌++◌, List, ℕ, ap, subst, codes, map, true, ◌&&◌}
use Rattle.std.specs.List.{flat_map, AllByRecursion}
use Rattle.bus_outer.specs.Sinks.{WritesText}
use Rattle.bus_outer.proofs.TextLaws.{◌▸◌, ends_text}
use Rattle.bus_strings.specs.Items.{Item, IsItem}
use Rattle.bus_text.specs.Canonical.{spelled_lines}
use Rattle.bus_strings.specs.Canonical.{item_fields}
use Rattle.bus_cable.specs.declared.cable.Named.{Named}
use Rattle.bus_cable.specs.Cables.{most_wake, may_name_all}
use Rattle.bus_propagation.specs.Numbered.{most_place}
use Rattle.bus_cable.specs.inside.Puts.{named_bytes}
use Rattle.bus_cable.proofs.CanonicalLemmas.{cable_put, cable_text_is}
use Rattle.bus_cable.proofs.writing.write_cable.Goals as goal

pub returns-clause-written : goal.returns-clause-written
returns-clause-written g c =
    let cable = c.args.cable.now in
    let items = c.args.payloads.now in
    let lines = spelled_lines (map item_fields items) in
    let e =
    ap (λ (ns : List Named). codes "CABLE 1\n" ++ flat_map (named_bytes (codes "PLACE")) ns ++ flat_map (named_bytes (codes "WAKE")) c.wakes.result.now ++ lines) c.places.ensures.value
    ∙ ap (λ (ns : List Named). codes "CABLE 1\n" ++ flat_map (named_bytes (codes "PLACE")) cable.places ++ flat_map (named_bytes (codes "WAKE")) ns ++ lines) c.wakes.ensures.value
    ∙ cable_put cable items in
    subst (λ (text : List ℕ). WritesText g.K.Sink.held g.K.Sink.faults c.args.sink.now c.finish.new.sink c.finish.result text) e
    (ends_text g.K.Sink.held g.K.Sink.faults c.args.sink.now c.put_payloads.new.sink c.finish.new.sink c.new-text.result c.put_payloads.new.text c.finish.result _ c.finish.ensures
    (c.put.ensures ▸ c.put_all.ensures ▸ c.put_all-2.ensures ▸ c.put_payloads.ensures) c.new-text.ensures)

pub returns-clause-again : goal.returns-clause-again
returns-clause-again g c =
    let places : may_name_all most_place 0 c.args.cable.now.places ≡ true = subst (λ (ns : List Named). may_name_all most_place 0 ns ≡ true) c.places.ensures.value c.places.ensures.ranges in
    let wakes : may_name_all most_wake 0 c.args.cable.now.wakes ≡ true = subst (λ (ns : List Named). may_name_all most_wake 0 ns ≡ true) c.wakes.ensures.value c.wakes.ensures.ranges in
    cable_text_is c.args.cable.now c.args.payloads.now (ap (λ t. t && may_name_all most_wake 0 c.args.cable.now.wakes) places ∙ wakes)
    (subst (λ (items : List Item). AllByRecursion IsItem items) c.payloads.view_is c.payloads.invariant)
