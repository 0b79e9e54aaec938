use Rattle.std.proofs.Common.{◌∙◌, sym, ap, refl, get_or}
use Rattle.bus_cable.specs.declared.cable.Named.{Named}
use Rattle.bus_cable.specs.Cables.{may_name}
use Rattle.bus_cable.proofs.NamedLemmas.{named_step, named_wrong}
use Rattle.bus_cable.proofs.cable.may_name_all.Goals as goal

pub loop-one-preserved : goal.loop-one-preserved
loop-one-preserved c =
    let one : Named = get_or c.args.named.now c.loop-one.one-index (record { terminal = 0; bits = 0 }) in
    c.loop-one.invariant
    ∙ named_step c.args.most c.loop-one.last c.loop-one.one-index c.args.named.now (record { terminal = 0; bits = 0 }) one refl c.loop-one-test.true
    (ap (λ n. may_name c.args.most c.loop-one.last (record { terminal = n; bits = one.bits })) (sym c.from.ensures) ∙ sym c.may_name.ensures ∙ c.if-not-may_name.false)

pub returns-then-not-may_name : goal.returns-then-not-may_name
returns-then-not-may_name c =
    let one : Named = get_or c.args.named.now c.loop-one.one-index (record { terminal = 0; bits = 0 }) in
    sym
    (c.loop-one.invariant
    ∙ named_wrong c.args.most c.loop-one.last c.loop-one.one-index c.args.named.now (record { terminal = 0; bits = 0 }) one refl c.loop-one-test.true
    (ap (λ n. may_name c.args.most c.loop-one.last (record { terminal = n; bits = one.bits })) (sym c.from.ensures) ∙ sym c.may_name.ensures ∙ c.if-not-may_name.true))
