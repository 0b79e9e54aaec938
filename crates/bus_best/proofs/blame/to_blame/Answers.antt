use Rattle.std.proofs.Common.{sym, subst, ◌∙◌}
use Rattle.bus_best.specs.Blames.{Means}
use Rattle.bus_best.proofs.Meaning.{blame_means, told_none, told_some}
use Rattle.bus_best.proofs.blame.to_blame.Goals as goal

pub returns-in-Some-clause-meaning : goal.returns-in-Some-clause-meaning
returns-in-Some-clause-meaning c =
    subst (Means c.args.bounds c.args.senders.now)
    (told_some c.args.bounds c.args.senders.now _ (sym c.first_unlasting.ensures ∙ c.in-Some.is))
    (blame_means c.args.bounds c.args.senders.now c.delay-ranges.ensures.ranges.clocks)

pub returns-in-None-clause-meaning : goal.returns-in-None-clause-meaning
returns-in-None-clause-meaning c =
    subst (Means c.args.bounds c.args.senders.now)
    (told_none c.args.bounds c.args.senders.now (sym c.first_unlasting.ensures ∙ c.in-None.is) ∙ sym c.blame_gaps.ensures)
    (blame_means c.args.bounds c.args.senders.now c.delay-ranges.ensures.ranges.clocks)
