use Rattle.std.proofs.Common.{arith, ◌≡◌, ◌∙◌, ◌≤◌, ◌<◌, ℕ, List, ap, sym, subst}
use Rattle.std.specs.Prelude.{IfOk}
use Rattle.std.proofs.Math.Path.{fun_ext}
use Rattle.bus_strings.specs.Limits.{horizon_limit}
use Rattle.bus_strings.specs.Messages.{Entry}
use Rattle.bus_medium.specs.CableLawful.{IsLawfulOnCable}
use Rattle.bus_medium.specs.Delays.{cable}
use Rattle.bus_medium.specs.Timings.{quiet_of, stations_of}
use Rattle.bus_propagation.specs.Numbered.{numbered}
use Rattle.bus_cable.specs.declared.cable.Named.{Named}
use Rattle.bus_cable.specs.Cables.{most_wake, bits_for, place_on, wakes_on}
use Rattle.bus_propagation.specs.Numbered.{most_place}
use Rattle.bus_cable.proofs.NamedLemmas.{bits_small, less_named}
use Rattle.bus_cable.proofs.observing.observe_on.Goals as goal

pub spots-places-requires : goal.spots-places-requires
spots-places-requires c = less_named most_place most_wake 0 c.places.result.now (omega arith) c.places.ensures.ranges

pub observe_delayed-requires-clause-places : goal.observe_delayed-requires-clause-places
observe_delayed-requires-clause-places c n = subst (λ (k : ℕ). k ≤ most_place) (sym (c.spots-places.ensures n)) (bits_small most_place 0 n c.places.result.now c.places.ensures.ranges)

pub observe_delayed-requires-clause-wakes : goal.observe_delayed-requires-clause-wakes
observe_delayed-requires-clause-wakes c n =
    subst (λ (k : ℕ). k < horizon_limit) (sym (c.spots-wakes.ensures n)) (let few : bits_for c.wakes.result.now n ≤ most_wake = bits_small most_wake 0 n c.wakes.result.now c.wakes.ensures.ranges in omega (arith, few))

pub returns-clause-lawful : goal.returns-clause-lawful
returns-clause-lawful c =
    let place_is : numbered c.spots-places.result ≡ place_on c.args.cable.now = fun_ext (λ n. c.spots-places.ensures n ∙ ap (λ (ns : List Named). bits_for ns n) c.places.ensures.value) in
    let wake_is : numbered c.spots-wakes.result ≡ wakes_on c.args.cable.now = fun_ext (λ n. c.spots-wakes.ensures n ∙ ap (λ (ns : List Named). bits_for ns n) c.wakes.ensures.value) in
    subst (λ (w : ℕ → ℕ). IfOk c.observe_delayed.result (λ list. IsLawfulOnCable (quiet_of c.args.table.now) (cable (place_on c.args.cable.now)) w (stations_of c.args.table.now c.args.hands.items) c.args.horizon list.items)) wake_is
    (subst (λ (p : ℕ → ℕ). IfOk c.observe_delayed.result (λ list. IsLawfulOnCable (quiet_of c.args.table.now) (cable p) (numbered c.spots-wakes.result) (stations_of c.args.table.now c.args.hands.items) c.args.horizon list.items)) place_is
    c.observe_delayed.ensures.lawful)

pub returns-clause-only : goal.returns-clause-only
returns-clause-only c =
    let place_is : numbered c.spots-places.result ≡ place_on c.args.cable.now = fun_ext (λ n. c.spots-places.ensures n ∙ ap (λ (ns : List Named). bits_for ns n) c.places.ensures.value) in
    let wake_is : numbered c.spots-wakes.result ≡ wakes_on c.args.cable.now = fun_ext (λ n. c.spots-wakes.ensures n ∙ ap (λ (ns : List Named). bits_for ns n) c.wakes.ensures.value) in
    subst (λ (w : ℕ → ℕ). IfOk c.observe_delayed.result (λ list. (other : List Entry) → IsLawfulOnCable (quiet_of c.args.table.now) (cable (place_on c.args.cable.now)) w (stations_of c.args.table.now c.args.hands.items) c.args.horizon other → other ≡ list.items)) wake_is
    (subst (λ (p : ℕ → ℕ). IfOk c.observe_delayed.result (λ list. (other : List Entry) → IsLawfulOnCable (quiet_of c.args.table.now) (cable p) (numbered c.spots-wakes.result) (stations_of c.args.table.now c.args.hands.items) c.args.horizon other → other ≡ list.items)) place_is
    c.observe_delayed.ensures.only)
