use Rattle.std.proofs.Common.{ℕ, List, cond, true, false, Ok, Err, subst, ap, sym, ◌∙◌}
use Rattle.std.proofs.lemmas.Result.{err_from_is_err_and}
use Rattle.bus_text.specs.declared.reason.Reason.TheVariants.{Spelling}
use Rattle.bus_text.specs.inside.Gives.{LineFails}
use Rattle.bus_strings.specs.Items.{numbers}
use Rattle.bus_strings.specs.Reading.{are_spelled, strings_of}
use Rattle.bus_strings.proofs.ItemLemmas.{words_refused, item_is, is_item}
use Rattle.bus_strings.proofs.item.item.Goals as goal

pub returns-in_err-strings-clause-exact : goal.returns-in_err-strings-clause-exact
returns-in_err-strings-clause-exact c =
    let p = err_from_is_err_and c.from_residual-in_err-strings.result c.from_residual-in_err-strings.ensures.1 in
    let words = subst (λ (fs : List (List ℕ)). LineFails c.in_err-strings.field-0.0 (cond (are_spelled fs) (Ok (strings_of fs)) (Err Spelling))) c.in_ok-terminal.ensures.taken.1 c.in_err-strings.ensures in
    rw (p.1, p.2) (words_refused c.args.fields c.in_ok-terminal.terminal c.in_err-strings.field-0.0 c.in_ok-terminal.ensures.taken.0 words)

pub returns-then-not-is_in_range-clause-exact : goal.returns-then-not-is_in_range-clause-exact
returns-then-not-is_in_range-clause-exact c =
    let e = ap (λ fs. cond (are_spelled fs) (Ok (strings_of fs)) (Err Spelling)) (sym c.in_ok-terminal.ensures.taken.1) ∙ c.in_ok-strings.ensures in
    item_is c.args.fields c.in_ok-terminal.terminal (numbers c.in_ok-strings.strings.items) false c.in_ok-terminal.ensures.taken.0 e (sym (rw c.deref.ensures.value at c.if-not-is_in_range.ensures))

pub returns-clause-exact : goal.returns-clause-exact
returns-clause-exact c =
    let e = ap (λ fs. cond (are_spelled fs) (Ok (strings_of fs)) (Err Spelling)) (sym c.in_ok-terminal.ensures.taken.1) ∙ c.in_ok-strings.ensures in
    item_is c.args.fields c.in_ok-terminal.terminal (numbers c.in_ok-strings.strings.items) true c.in_ok-terminal.ensures.taken.0 e (sym (rw c.deref.ensures.value at c.if-not-is_in_range.ensures))

pub returns-clause-ranges : goal.returns-clause-ranges
returns-clause-ranges c = is_item c.args.fields (record { terminal = c.in_ok-terminal.terminal; strings = numbers c.in_ok-strings.strings.items }) (returns-clause-exact c)
