use Rattle.std.proofs.Common.{List, subst, sym, ◌≤◌, ◌&&◌, ℕ, true, ◌≡◌, ap, ◌∙◌}
use Rattle.std.proofs.lemmas.Bool.{and_parts}
use Rattle.bus_cable.specs.declared.cable.Named.{Named}
use Rattle.bus_cable.specs.Cables.{may_name_all, most_wake, bits_for}
use Rattle.bus_propagation.specs.Numbered.{most_place}
use Rattle.bus_cable.proofs.NamedLemmas.{bits_small}
use Rattle.bus_cable.proofs.cable.Cable.place.Goals as goal

pub returns-clause-most : goal.returns-clause-most
returns-clause-most c =
    let ranges : (may_name_all most_place 0 c.self.inside.places.items && may_name_all most_wake 0 c.self.inside.wakes.items) ≡ true = c.self.invariant in
    let parts = and_parts (may_name_all most_place 0 c.self.inside.places.items) (may_name_all most_wake 0 c.self.inside.wakes.items) ranges in
    subst (λ (n : ℕ). n ≤ most_place) (sym (c.bits_for.ensures ∙ ap (λ (xs : List Named). bits_for xs c.args.terminal) c.deref.ensures.value)) (bits_small most_place 0 c.args.terminal c.self.inside.places.items parts.0)
