use Rattle.std.proofs.Common.{ap, subst, ◌∙◌}
use Rattle.bus_strings.specs.Messages.{Entry}
use Rattle.bus_findings.specs.inside.Standing.{HasBegun}
use Rattle.bus_findings.proofs.PlaceLemmas.{read_is}
use Rattle.bus_findings.proofs.live.judge_last.Goals as goal

pub returns-clause-begun : goal.returns-clause-begun
returns-clause-begun c = λ y at.
    let list = c.args.list.now in
    let it = read_is list c.args.i c.index-list-i.result y c.index-list-i.is at in
    c.with.ensures.begun y.moment
    (subst (λ m. HasBegun c.args.bounds list m c.at_moment-heard.result) (ap (λ (z : Entry). z.moment) (c.x.view_is ∙ it)) c.at_moment-heard.ensures.reached.begun)
