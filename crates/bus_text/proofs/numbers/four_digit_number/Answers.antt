use Rattle.std.proofs.Common.{arith, [], ◌∷◌}
use Rattle.bus_text.proofs.NumberLaws.{hexadecimal_value-lt}
use Rattle.bus_text.proofs.NumberLemmas.{four_digits}
use Rattle.bus_text.proofs.numbers.four_digit_number.Goals as goal

pub overflow_add-result : goal.overflow_add-result
overflow_add-result c =
    let number = four_digits c.args.a c.args.b c.args.c c.args.d _ _ _ _ c.hex_value-a.ensures.value c.hex_value-b.ensures.value c.hex_value-c.ensures.value c.hex_value-d.ensures.value (omega (arith, c.if-a-b-ge-NO.false)) in
    omega (arith, c.from.ensures, c.from-2.ensures, c.from-3.ensures, c.from-4.ensures, hexadecimal_value-lt 4 (c.args.a ∷ c.args.b ∷ c.args.c ∷ c.args.d ∷ []) number.digits, number.value)

pub returns : goal.returns
returns c =
    rw (c.from.ensures, c.from-2.ensures, c.from-3.ensures, c.from-4.ensures) (four_digits c.args.a c.args.b c.args.c c.args.d _ _ _ _ c.hex_value-a.ensures.value c.hex_value-b.ensures.value c.hex_value-c.ensures.value c.hex_value-d.ensures.value (omega (arith, c.if-a-b-ge-NO.false)))
