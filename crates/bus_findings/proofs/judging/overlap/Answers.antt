use Rattle.std.proofs.Common.{◌≡◌, arith, ap, ◌∙◌}
use Rattle.bus_strings.specs.Messages.{Entry}
use Rattle.bus_findings.proofs.PlaceLemmas.{read_is}
use Rattle.bus_findings.proofs.JudgeLemmas.{overlap_at}
use Rattle.bus_findings.proofs.judging.overlap.Goals as goal

pub returns : goal.returns
returns c = λ y at.
    let it : c.index-list-i.result ≡ y = read_is c.args.list.now c.args.i c.index-list-i.result y c.index-list-i.is at in
    let moment : c.x.inside.moment ≡ y.moment = ap (λ (x : Entry). x.moment) (c.x.view_is ∙ it) in
    omega (arith, moment, overlap_at c.args.list.now c.args.i y c.requires.order at, c.requires.heard.end, c.saturating_sub.ensures)
