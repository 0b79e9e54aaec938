use Rattle.std.proofs.Common.{◌≡◌, ◌+◌, ◌<◌, ◌≤◌, ◌^◌, arith, ap, subst, sym}
use Rattle.bus_strings.specs.Messages.{Entry}
use Rattle.bus_strings.specs.Transmissions.{end_of}
use Rattle.bus_propagation.proofs.ArrivalLemmas.{end_within, near_by}
use Rattle.bus_propagation.proofs.arrival.heard.Goals as goal

pub overflow_add-result-2 : goal.overflow_add-result-2
overflow_add-result-2 c =
    let x = c.args.transmission.now in
    let at : x.moment ≡ c.transmission.inside.moment = sym (ap (λ (y : Entry). y.moment) c.transmission.view_is) in
    let low : c.transmission.inside.moment < 2 ^ 40 = c.transmission.invariant.2 in
    let end : end_of x ≤ 2 ^ 40 + 160000 = end_within x (omega arith) c.end.ensures.ranges in
    let delay : c.distance-delay.result ≤ 1024 = near_by c.distance-delay.result c.number_of.result c.number_of-2.result c.distance-delay.ensures
    (subst (λ p. p ≤ 1024) (sym c.number_of.ensures) (c.requires.places c.transmission.inside.terminal)) (subst (λ p. p ≤ 1024) (sym c.number_of-2.ensures) (c.requires.places c.args.terminal)) in
    let is : c.end.result ≡ end_of x = c.end.ensures.value in
    omega arith

pub invariant_of-result : goal.invariant_of-result
invariant_of-result c =
    let x = c.args.transmission.now in
    let at : x.moment ≡ c.transmission.inside.moment = sym (ap (λ (y : Entry). y.moment) c.transmission.view_is) in
    let low : c.transmission.inside.moment < 2 ^ 40 = c.transmission.invariant.2 in
    let end : end_of x ≤ 2 ^ 40 + 160000 = end_within x (omega arith) c.end.ensures.ranges in
    let delay : c.distance-delay.result ≤ 1024 = near_by c.distance-delay.result c.number_of.result c.number_of-2.result c.distance-delay.ensures
    (subst (λ p. p ≤ 1024) (sym c.number_of.ensures) (c.requires.places c.transmission.inside.terminal)) (subst (λ p. p ≤ 1024) (sym c.number_of-2.ensures) (c.requires.places c.args.terminal)) in
    let is : c.end.result ≡ end_of x = c.end.ensures.value in
    let some : x.moment < c.end.result = c.end.ensures.some in
    record { some = omega arith; end_in_range = omega arith }
