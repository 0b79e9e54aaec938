use Rattle.std.proofs.Common.{◌≡◌, List, [], length, map, ap, sym, ◌∙◌, subst, arith}
use Rattle.std.proofs.lemmas.List.{with_items_is, length-map}
use Rattle.bus_medium.specs.Buses.{Seat, number_of, StandsAt}
use Rattle.bus_medium.specs.Orders.{IsSendOrder}
use Rattle.bus_medium.proofs.Observing.{observed_lawful, observed_only, observed_stands, observed_stations}
use Rattle.bus_medium.proofs.bus.Bus.observe_by_jumps.Goals as goal

pub jump_all-requires-clause-stands : goal.jump_all-requires-clause-stands
jump_all-requires-clause-stands g c =
    let q = c.self.inside.send_order.quiet in
    let stands : StandsAt g.C.Core (record { quiet = q; seats = c.self.inside.seats.items }) [] 0 = subst (λ b. StandsAt g.C.Core b [] 0) (sym c.self.view_is) c.requires.stands in
    subst (λ seats. StandsAt g.C.Core (record { quiet = q; seats = seats }) [] 0) (sym c.deref_mut.ensures.value) stands

-- what is written back is what was observed
same_length : {C : Type 0} (new old : List (Seat C)) → map number_of new ≡ map number_of old → length new ≡ length old
same_length new old e =
    let mapped : length (map number_of new) ≡ length (map number_of old) = ap length e in
    omega (arith, length-map new number_of, length-map old number_of)

pub invariant_of-self : goal.invariant_of-self
invariant_of-self g c =
    let new = c.jump_all.new.seats in
    let old = c.self.inside.seats in
    let numbers = c.jump_all.ensures.numbers in
    let long : length new ≡ old.len = same_length new c.deref_mut.result.now numbers ∙ c.deref_mut.ensures.len in
    let kept : map number_of old.items ≡ map number_of new = ap (map number_of) (sym c.deref_mut.ensures.value) ∙ sym numbers in
    let send_order : IsSendOrder (map number_of old.items) c.self.inside.send_order.places.items = c.self.invariant in
    subst (λ seats. IsSendOrder (map number_of seats) c.self.inside.send_order.places.items) (sym (with_items_is old new long))
    (subst (λ ns. IsSendOrder ns c.self.inside.send_order.places.items) kept send_order)

pub returns-clause-lawful : goal.returns-clause-lawful
returns-clause-lawful g c =
    observed_lawful g.C.Core c.jump_all.result (λ l. l.items) c.args.horizon c.self.inside.send_order.quiet _ _ c.jump_all.new.seats _ _ c.self.view_is c.deref_mut.ensures.value
    (sym (with_items_is c.self.inside.seats c.jump_all.new.seats (same_length c.jump_all.new.seats c.deref_mut.result.now c.jump_all.ensures.numbers ∙ c.deref_mut.ensures.len))) c.jump_all.ensures.list

pub returns-clause-only : goal.returns-clause-only
returns-clause-only g c =
    observed_only g.C.Core c.jump_all.result (λ l. l.items) c.args.horizon c.self.inside.send_order.quiet _ _ c.jump_all.new.seats _ _ c.self.view_is c.deref_mut.ensures.value
    (sym (with_items_is c.self.inside.seats c.jump_all.new.seats (same_length c.jump_all.new.seats c.deref_mut.result.now c.jump_all.ensures.numbers ∙ c.deref_mut.ensures.len))) c.jump_all.ensures.list

pub returns-clause-stands : goal.returns-clause-stands
returns-clause-stands g c =
    observed_stands g.C.Core c.jump_all.result (λ l. l.items) c.args.horizon c.self.inside.send_order.quiet _ _ c.jump_all.new.seats _ _ c.self.view_is c.deref_mut.ensures.value
    (sym (with_items_is c.self.inside.seats c.jump_all.new.seats (same_length c.jump_all.new.seats c.deref_mut.result.now c.jump_all.ensures.numbers ∙ c.deref_mut.ensures.len))) c.jump_all.ensures.list

pub returns-clause-stations : goal.returns-clause-stations
returns-clause-stations g c =
    observed_stations g.C.Core c.jump_all.result (λ l. l.items) c.args.horizon c.self.inside.send_order.quiet _ _ c.jump_all.new.seats _ _ c.self.view_is c.deref_mut.ensures.value
    (sym (with_items_is c.self.inside.seats c.jump_all.new.seats (same_length c.jump_all.new.seats c.deref_mut.result.now c.jump_all.ensures.numbers ∙ c.deref_mut.ensures.len))) c.jump_all.ensures.list
