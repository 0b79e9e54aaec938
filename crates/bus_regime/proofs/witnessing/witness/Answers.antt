use Rattle.std.proofs.Common.{rules, ◌≡◌, ap, ◌∙◌, sym, subst, length, List}
use Rattle.std.specs.Prelude.{IsOk}
use Rattle.std.specs.List.{AllByRecursion}
use Rattle.bus_strings.specs.Items.{Item, IsItem}
use Rattle.bus_table.specs.Fits.{items_fit}
use Rattle.bus_table.specs.Hands.{items_of}
use Rattle.bus_table.proofs.ValidLaws.{valid_facts}
use Rattle.bus_regime.specs.Witness.{witness_of}
use Rattle.bus_regime.proofs.WitnessLaws.{witness_fits, witness_items, witness_is_items}
use Rattle.bus_regime.proofs.witnessing.witness.Goals as goal

pub invariant_of-result : goal.invariant_of-result
invariant_of-result c =
    let made : c.add_round-2.new.items.items ≡ witness_of c.args.table.now = search rules in
    subst (AllByRecursion IsItem) (sym made) (witness_is_items c.args.table.now (valid_facts c.args.table.now c.senders-senders.ensures.valid))

pub returns-clause-fits : goal.returns-clause-fits
returns-clause-fits c =
    let made : c.add_round-2.new.items.items ≡ witness_of c.args.table.now = search rules in
    subst (λ (items : List Item). IsOk (items_fit c.args.table.now items)) (sym made)
    (witness_fits c.args.table.now (valid_facts c.args.table.now c.senders-senders.ensures.valid))

pub returns-clause-even : goal.returns-clause-even
returns-clause-even c sender there =
    let made : c.add_round-2.new.items.items ≡ witness_of c.args.table.now = search rules in
    ap (λ (items : List Item). length (items_of sender.number items)) made
    ∙ ap length (witness_items c.args.table.now sender (valid_facts c.args.table.now c.senders-senders.ensures.valid) there)
