use Rattle.std.proofs.Common.{◌≡◌, ◌-◌, ◌<◌, ◌≤◌, [], Some, ap, sym, subst, arith, ◌∙◌, get_or, length}
use Rattle.std.specs.Option.{option_map, option_and_then}
use Rattle.std.proofs.lemmas.List.{get_or_default}
use Rattle.bus_table.specs.Tables.{Hand}
use Rattle.bus_strings.specs.Messages.{Message}
use Rattle.bus_medium.specs.inside.Places.{place_of}
use Rattle.bus_medium.specs.Terminals.{last_begun}
use Rattle.bus_medium.specs.MessageStretches.{later_place}
use Rattle.bus_medium.specs.inside.Standing.{place_in}
use Rattle.bus_medium.proofs.PlaceLemmas.{running_begun}
use Rattle.bus_medium.proofs.RunningLemmas.{far_is}
use Rattle.bus_medium.proofs.terminal.far_running.Goals as goal

pub returns-clause-place : goal.returns-clause-place
returns-clause-place c =
    let hand = c.args.hand.now in
    let sent = c.args.sent in
    let p = c.in_ok-place.place in
    let n = c.index.result.now in
    let within : sent ≤ length hand.messages = c.requires.within in
    let begun : 0 < sent = running_begun hand sent c.args.running p c.requires c.in_ok-place.was in
    let same : n ≡ last_begun hand sent =
    c.index.ensures ∙ ap (λ (h : Hand). get_or h.messages (sent - 1) n) c.hand.view_is ∙ get_or_default hand.messages (sent - 1) n [] (omega arith) in
    let next : option_map (place_of n) c.far.result ≡ later_place n c.args.bits (place_of n p) = far_is n (place_of n p) c.args.bits c.far.result c.far.ensures in
    let moved : place_in hand sent c.far.result ≡ option_and_then (later_place (last_begun hand sent) c.args.bits) (place_in hand sent (Some p)) =
    subst (λ (m : Message). option_map (place_of m) c.far.result ≡ later_place m c.args.bits (place_of m p)) same next in
    moved ∙ ap (λ o. option_and_then (later_place (last_begun hand sent) c.args.bits) (place_in hand sent o)) (sym c.in_ok-place.was)
