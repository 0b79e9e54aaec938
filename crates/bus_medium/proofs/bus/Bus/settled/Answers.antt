use Rattle.std.proofs.Common.{ℕ, List, [], sym, ◌∙◌, subst}
use Rattle.bus_medium.specs.Buses.{StandsAt}
use Rattle.bus_medium.specs.Orders.{IsByNumber, AreNumbers}
use Rattle.bus_medium.specs.inside.Seating.{AreDistinct}
use Rattle.bus_medium.proofs.TimingLemmas.{are_numbers, are_distinct}
use Rattle.bus_medium.proofs.SeatingLemmas.{seats_numbers, seated_stands, seated_moves}
use Rattle.bus_medium.proofs.bus.Bus.settled.Goals as goal

pub by_number-requires-clause-range : goal.by_number-requires-clause-range
by_number-requires-clause-range g c = subst AreNumbers (sym (c.deref.ensures.value ∙ c.in_ok-numbers.ensures.numbers)) (are_numbers c.args.table.now c.in_ok-numbers.ensures.valid)

pub by_number-requires-clause-own : goal.by_number-requires-clause-own
by_number-requires-clause-own g c = subst AreDistinct (sym (c.deref.ensures.value ∙ c.in_ok-numbers.ensures.numbers)) (are_distinct c.args.table.now c.in_ok-numbers.ensures.valid)

pub invariant_of-result : goal.invariant_of-result
invariant_of-result g c =
    let table = c.args.table.now in
    let numbers = c.deref.ensures.value ∙ c.in_ok-numbers.ensures.numbers in
    let same = seats_numbers table c.args.hands.items c.in_ok-seats.seats.items c.requires c.in_ok-seats.ensures.stations in
    record {
      ranges = subst AreNumbers (sym same) (are_numbers table c.in_ok-numbers.ensures.valid);
      order = subst (λ (ns : List ℕ). IsByNumber ns c.in_ok-places.places.items) (numbers ∙ sym same) c.in_ok-places.ensures;
    }

pub returns-clause-stands : goal.returns-clause-stands
returns-clause-stands g c =
    let seats = c.in_ok-seats.seats.items in
    subst (λ (q : ℕ). StandsAt g.C.Core (record { quiet = q; seats = seats }) [] 0) (sym c.quiet.ensures.value) (seated_stands g.C.Core c.args.table.now seats c.in_ok-seats.ensures.seated)

pub returns-clause-moves : goal.returns-clause-moves
returns-clause-moves g c = seated_moves g.C.Core c.args.table.now c.in_ok-seats.seats.items c.in_ok-seats.ensures.seated
