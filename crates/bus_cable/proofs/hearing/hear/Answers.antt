use Rattle.std.proofs.Common.{arith, ◌≡◌, ◌≤◌, ap, sym}
use Rattle.bus_strings.specs.Messages.{Entry, bits, most_bits}
use Rattle.bus_strings.proofs.KeptLemmas.{bits_within}
use Rattle.bus_cable.proofs.hearing.hear.Goals as goal

pub overflow_add-result-2 : goal.overflow_add-result-2
overflow_add-result-2 c =
    let most : bits c.args.x.now.message ≤ most_bits = (bits_within c.args.x.now.message c.end.ensures.ranges).1 in
    let moment : c.args.x.now.moment ≡ c.x.inside.moment = ap (λ (e : Entry). e.moment) (sym c.x.view_is) in
    omega (arith, most, moment, c.end.ensures.value, c.x.invariant, c.distance-delay.ensures)
