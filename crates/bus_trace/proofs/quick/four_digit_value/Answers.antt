use Rattle.std.proofs.Common.{arith}
use Rattle.bus_trace.proofs.QuickLines.{four_written}
use Rattle.bus_trace.proofs.quick.four_digit_value.Goals as goal

pub returns : goal.returns
returns c =
    four_written c.args.a c.args.b c.args.c c.args.d c.capital_value.result c.capital_value-2.result c.capital_value-3.result c.capital_value-4.result _
    c.capital_value.ensures.value c.capital_value-2.ensures.value c.capital_value-3.ensures.value c.capital_value-4.ensures.value
    (omega (arith, c.if-a-b.false, c.from.ensures, c.from-a.ensures, c.from-b.ensures, c.from-c.ensures, c.from-d.ensures))
    (omega (arith, c.if-a-b.false, c.from.ensures, c.from-a.ensures, c.from-b.ensures, c.from-c.ensures, c.from-d.ensures))
