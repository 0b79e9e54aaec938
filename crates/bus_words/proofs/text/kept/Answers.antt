use Rattle.std.proofs.Common.{arith, length, sym, below_more}
use Rattle.bus_words.proofs.FormLemmas.{kept_is}
use Rattle.bus_words.proofs.text.kept.Goals as goal

pub returns-then-not-may_stand : goal.returns-then-not-may_stand
returns-then-not-may_stand c = sym (kept_is c.args.text.now c.loop-place.place (omega arith) c.loop-place.invariant (λ h. sym c.if-not-may_stand.ensures))

pub loop-place-preserved : goal.loop-place-preserved
loop-place-preserved c = below_more _ _ c.loop-place.invariant (sym c.if-not-may_stand.ensures)

pub returns : goal.returns
returns c = sym (kept_is c.args.text.now (length c.args.text.now) (omega arith) (λ k h. c.loop-place.invariant k (omega arith)) (λ h. absurd (omega arith)))
