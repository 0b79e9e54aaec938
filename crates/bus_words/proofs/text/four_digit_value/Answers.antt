use Rattle.std.proofs.Common.{arith, Some, ap, refl}
use Rattle.std.specs.Char.{digit_value}
use Rattle.bus_text.specs.Digits.{is_capital_digit}
use Rattle.bus_words.proofs.FormLemmas.{some_if, none_if}
use Rattle.bus_words.proofs.text.four_digit_value.Goals as goal

pub returns-in_err-capital_digit : goal.returns-in_err-capital_digit
returns-in_err-capital_digit c = rw (c.from_residual.ensures, none_if (is_capital_digit c.args.a) (digit_value c.args.a) c.in_err-capital_digit.ensures.value) refl

pub returns-in_err-upper : goal.returns-in_err-upper
returns-in_err-upper c =
    let a = some_if (is_capital_digit c.args.a) _ (digit_value c.args.a) c.in_ok-capital_digit.ensures.value in
    rw (c.from_residual-in_err-upper.ensures, a.0, none_if (is_capital_digit c.args.b) (digit_value c.args.b) c.in_err-upper.ensures.value) refl

pub returns-in_err-capital_digit-2 : goal.returns-in_err-capital_digit-2
returns-in_err-capital_digit-2 c =
    let a = some_if (is_capital_digit c.args.a) _ (digit_value c.args.a) c.in_ok-capital_digit.ensures.value in
    let b = some_if (is_capital_digit c.args.b) _ (digit_value c.args.b) c.in_ok-upper.ensures.value in
    rw (c.from_residual-in_err-capital_digit-2.ensures, a.0, b.0, none_if (is_capital_digit c.args.c) (digit_value c.args.c) c.in_err-capital_digit-2.ensures.value) refl

pub returns-in_err-lower : goal.returns-in_err-lower
returns-in_err-lower c =
    let a = some_if (is_capital_digit c.args.a) _ (digit_value c.args.a) c.in_ok-capital_digit.ensures.value in
    let b = some_if (is_capital_digit c.args.b) _ (digit_value c.args.b) c.in_ok-upper.ensures.value in
    let d = some_if (is_capital_digit c.args.c) _ (digit_value c.args.c) c.in_ok-capital_digit-2.ensures.value in
    rw (c.from_residual-in_err-lower.ensures, a.0, b.0, d.0, none_if (is_capital_digit c.args.d) (digit_value c.args.d) c.in_err-lower.ensures.value) refl

pub returns : goal.returns
returns c =
    let a = some_if (is_capital_digit c.args.a) _ (digit_value c.args.a) c.in_ok-capital_digit.ensures.value in
    let b = some_if (is_capital_digit c.args.b) _ (digit_value c.args.b) c.in_ok-upper.ensures.value in
    let d = some_if (is_capital_digit c.args.c) _ (digit_value c.args.c) c.in_ok-capital_digit-2.ensures.value in
    let e = some_if (is_capital_digit c.args.d) _ (digit_value c.args.d) c.in_ok-lower.ensures.value in
    rw (a.0, b.0, d.0, e.0) (ap Some (omega (arith, c.from.ensures, c.from-2.ensures, a.1, b.1, d.1, e.1)))
