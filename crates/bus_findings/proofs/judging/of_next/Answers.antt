use Rattle.std.specs.Prelude.{Some}
use Rattle.std.proofs.Common.{◌≡◌, sym, ap, ◌∙◌}
use Rattle.bus_strings.specs.Messages.{Entry}
use Rattle.bus_findings.specs.declared.judgement.Judgement.{Judgement}
use Rattle.bus_findings.specs.Judging.{of_sender}
use Rattle.bus_findings.specs.Recorded.{seen}
use Rattle.bus_findings.proofs.PlaceLemmas.{read_is}
use Rattle.bus_findings.proofs.JudgeLemmas.{same_judgement}
use Rattle.bus_findings.proofs.judging.of_next.Goals as goal

pub returns : goal.returns
returns c = λ o x there at mine.
    let bounds = c.args.bounds in
    let list = c.args.list.now in
    let was = c.requires.first x at mine in
    let own : c.index-list-last.result ≡ o = read_is list c.args.last.place c.index-list-last.result o c.index-list-last.is there in
    let it : c.index-list-i.result ≡ x = read_is list c.args.i c.index-list-i.result x c.index-list-i.is at in
    same_judgement _ (of_sender bounds c.args.table.now list c.args.sender.now x (Some (seen bounds o)))
    (ap (λ (j : Judgement). j.stranger) was)
    (c.interval_lack.ensures c.args.sender.now o x (ap (λ (z : Entry). z.moment) (sym own ∙ sym c.o.view_is)) (ap (λ (z : Entry). z.moment) (sym it ∙ sym c.x.view_is)))
    (c.sync_lack.ensures o x there at mine)
    (ap (λ (j : Judgement). j.terminal_gap) was)
    (c.late_behind.ensures o x there at)
    (ap (λ (j : Judgement). j.misfit) was)
    (ap (λ (j : Judgement). j.overlap) was)
