use Rattle.std.proofs.Common.{true, false, sym, ◌∙◌}
use Rattle.bus_cable.proofs.FieldLemmas.{other_count, first_misspelled, second_misspelled, none_read, named_is}
use Rattle.bus_cable.proofs.reading.named.Goals as goal

pub returns-in_default : goal.returns-in_default
returns-in_default c = sym (other_count c.args.most c.args.last c.args.fields c.in_default.ensures)

pub returns-in_default-2 : goal.returns-in_default-2
returns-in_default-2 c =
    sym (second_misspelled c.args.most c.args.last c.args.fields c.in-Some.number.now c.in-Some.bits.now c.in-Some.ensures (none_read c.in-Some.bits.now c.in_default-2.ensures'))

pub returns-in_default-2-2 : goal.returns-in_default-2-2
returns-in_default-2-2 c =
    sym (first_misspelled c.args.most c.args.last c.args.fields c.in-Some.number.now c.in-Some.bits.now c.in-Some.ensures (none_read c.in-Some.number.now (sym c.in_default-2.is-0 ∙ c.plain_decimal.ensures)))

pub returns-then-not-may_name : goal.returns-then-not-may_name
returns-then-not-may_name c =
    sym (named_is c.args.most c.args.last c.in-Some-Some.terminal c.in-Some-Some.bits c.args.fields c.in-Some.number.now c.in-Some.bits.now false c.requires c.in-Some.ensures c.in-Some-Some.ensures c.in-Some-Some.ensures' (sym c.may_name.ensures ∙ c.if-not-may_name.true))

pub returns : goal.returns
returns c =
    sym (named_is c.args.most c.args.last c.in-Some-Some.terminal c.in-Some-Some.bits c.args.fields c.in-Some.number.now c.in-Some.bits.now true c.requires c.in-Some.ensures c.in-Some-Some.ensures c.in-Some-Some.ensures' (sym c.may_name.ensures ∙ c.if-not-may_name.false))
