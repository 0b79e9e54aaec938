use Rattle.std.proofs.Common.{arith, ◌≡◌, ◌∙◌, ◌≤◌, ◌++◌, ℕ, List, codes, ap, sym, subst}
use Rattle.std.proofs.Math.Path.{fun_ext}
use Rattle.std.specs.List.{flat_map}
use Rattle.bus_outer.specs.Sinks.{WritesText}
use Rattle.bus_outer.proofs.TextLaws.{◌▸◌, ends_text}
use Rattle.bus_strings.specs.Messages.{Entry}
use Rattle.bus_table.specs.Tables.{Sender, Listener}
use Rattle.bus_medium.specs.Delays.{Delays, cable}
use Rattle.bus_cable.specs.declared.cable.Named.{Named}
use Rattle.bus_cable.specs.Cables.{most_wake, bits_for, place_on}
use Rattle.bus_propagation.specs.Numbered.{most_place}
use Rattle.bus_cable.specs.inside.Ranks.{sender_heard, listener_heard}
use Rattle.bus_propagation.specs.Numbered.{numbered}
use Rattle.bus_cable.proofs.NamedLemmas.{bits_small, less_named}
use Rattle.bus_cable.proofs.HearingLemmas.{terminals_put}
use Rattle.bus_cable.proofs.heard.write_heard.Goals as goal

pub spots-places-requires : goal.spots-places-requires
spots-places-requires g c = less_named most_place most_wake 0 c.places.result.now (omega arith) c.places.ensures.ranges

pub put_senders-requires-clause-places : goal.put_senders-requires-clause-places
put_senders-requires-clause-places g c n = subst (λ (k : ℕ). k ≤ most_place) (sym (c.spots-places.ensures n)) (bits_small most_place 0 n c.places.result.now c.places.ensures.ranges)

pub put_listeners-requires-clause-places : goal.put_listeners-requires-clause-places
put_listeners-requires-clause-places g c n = subst (λ (k : ℕ). k ≤ most_place) (sym (c.spots-places.ensures n)) (bits_small most_place 0 n c.places.result.now c.places.ensures.ranges)

pub returns : goal.returns
returns g c =
    let list : List Entry = c.args.list.now in
    let place_is : numbered c.spots-places.result ≡ place_on c.args.cable.now = fun_ext (λ n. c.spots-places.ensures n ∙ ap (λ (ns : List Named). bits_for ns n) c.places.ensures.value) in
    let delay : Delays = cable (place_on c.args.cable.now) in
    let e =
    ap (λ (p : ℕ → ℕ). codes "HEARD 1\n" ++ flat_map (sender_heard (cable p) list) c.senders.result.now ++ flat_map (listener_heard (cable p) list) c.listeners.result.now ++ codes "END\n") place_is
    ∙ ap (λ (ss : List Sender). codes "HEARD 1\n" ++ flat_map (sender_heard delay list) ss ++ flat_map (listener_heard delay list) c.listeners.result.now ++ codes "END\n") c.senders.ensures.value
    ∙ ap (λ (ls : List Listener). codes "HEARD 1\n" ++ flat_map (sender_heard delay list) c.args.table.now.senders ++ flat_map (listener_heard delay list) ls ++ codes "END\n") c.listeners.ensures.value
    ∙ terminals_put c.args.table.now delay list in
    subst (λ (t : List ℕ). WritesText g.K.Sink.held g.K.Sink.faults c.args.sink.now c.finish.new.sink c.finish.result t) e
    (ends_text g.K.Sink.held g.K.Sink.faults c.args.sink.now c.put-2.new.sink c.finish.new.sink c.new-text.result c.put-2.new.self c.finish.result _ c.finish.ensures
    (c.put.ensures ▸ c.put_senders.ensures ▸ c.put_listeners.ensures ▸ c.put-2.ensures) c.new-text.ensures)
