use Rattle.std.proofs.Common.{arith, ◌≡◌, length, get_or, Some, ap, refl}
use Rattle.std.specs.List.{list_all}
use Rattle.bus_text.specs.Digits.{is_capital_digit}
use Rattle.bus_words.specs.WordTexts.{is_letter, is_bit}
use Rattle.bus_words.proofs.FormLemmas.{some_if, none_if, not_six, form_of_six, digits_of, frame_is}
use Rattle.bus_words.proofs.text.read_frame.Goals as goal

pub returns-in_default : goal.returns-in_default
returns-in_default c = rw (not_six c.args.text.now (omega arith)) refl

pub returns-in_default-2 : goal.returns-in_default-2
returns-in_default-2 c = rw (not_six c.args.text.now (omega arith)) refl

pub returns-in_err-four_digit_value : goal.returns-in_err-four_digit_value
returns-in_err-four_digit_value c =
    let text = c.args.text.now in
    let letter = some_if (is_letter (get_or text 0 0)) _ _ c.in_ok-kind_of.ensures in
    let digits = none_if (list_all is_capital_digit (digits_of text)) _ c.in_err-four_digit_value.ensures in
    rw (c.from_residual-in_err-four_digit_value.ensures, form_of_six text (omega arith), letter.0, digits) refl

pub returns-in_err-bit_of : goal.returns-in_err-bit_of
returns-in_err-bit_of c =
    let text = c.args.text.now in
    let letter = some_if (is_letter (get_or text 0 0)) _ _ c.in_ok-kind_of.ensures in
    let digits = some_if (list_all is_capital_digit (digits_of text)) _ _ c.in_ok-four_digit_value.ensures in
    let bit = none_if (is_bit (get_or text 5 0)) _ c.in_err-bit_of.ensures in
    rw (c.from_residual-in_err-bit_of.ensures, form_of_six text (omega arith), letter.0, digits.0, bit) refl

pub returns : goal.returns
returns c =
    let text = c.args.text.now in
    let six : length c.args.text.now ≡ 6 = omega arith in
    let letter = some_if (is_letter (get_or text 0 0)) _ _ c.in_ok-kind_of.ensures in
    let digits = some_if (list_all is_capital_digit (digits_of text)) _ _ c.in_ok-four_digit_value.ensures in
    let bit = some_if (is_bit (get_or text 5 0)) _ _ c.in_ok-bit_of.ensures in
    rw (form_of_six text six, letter.0, digits.0, bit.0) (ap Some (frame_is text six _ _ _ letter.1 digits.1 bit.1))
