use Rattle.std.proofs.Common.{refl, sym, ◌∙◌}
use Rattle.bus_text.proofs.LeadingLemmas.{next_digit}
use Rattle.bus_text.proofs.leading.leading_digits.Goals as goal

pub loop-count-preserved : goal.loop-count-preserved
loop-count-preserved c =
    let i = c.loop-count.invariant in
    let n = next_digit c.args.text.now c.loop-count.count c.loop-count.value _ c.from.result c.loop-count-test.true i.digits i.value
    c.if-value-lt-MOST_BEFORE.true refl (sym c.is_ascii_digit.ensures.value ∙ c.if-is_ascii_digit.true) c.from.ensures in
    record { within = n.within; digits = n.digits; value = n.value; room = n.room }
