use Rattle.std.proofs.Common.{arith, refl}
use Rattle.bus_text.proofs.LeadingLemmas.{next_four}
use Rattle.bus_text.proofs.leading.leading_fours.Goals as goal

pub loop-value-preserved : goal.loop-value-preserved
loop-value-preserved c =
    let i = c.loop-value.invariant in
    let n = next_four c.args.text.now c.loop-value.count c.loop-value.value _ _ _ _ c.in-Some.four
    (omega (arith, i.within, c.if-text-count-ge4.true)) i.digits i.value c.loop-value-test.true refl refl refl refl c.in-Some.ensures in
    record { within = n.within; digits = n.digits; value = n.value; room = n.room }
