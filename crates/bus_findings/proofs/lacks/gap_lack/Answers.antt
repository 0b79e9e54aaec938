use Rattle.std.specs.Prelude.{max}
use Rattle.std.proofs.Common.{◌≡◌, ap, ◌∙◌}
use Rattle.bus_strings.specs.Messages.{Entry}
use Rattle.bus_bounds.specs.Bounds.{short}
use Rattle.bus_findings.specs.Recorded.{timers_of}
use Rattle.bus_findings.specs.inside.Walked as walked
use Rattle.bus_findings.proofs.PlaceLemmas.{read_is}
use Rattle.bus_findings.proofs.JudgeLemmas.{gap_at}
use Rattle.bus_findings.proofs.lacks.gap_lack.Goals as goal

pub returns : goal.returns
returns c = λ y at mine.
    let bounds = c.args.bounds in
    let it : c.index-list-i.result ≡ y = read_is c.args.list.now c.args.i c.index-list-i.result y c.index-list-i.is at in
    let moment : c.x.inside.moment ≡ y.moment = ap (λ (x : Entry). x.moment) (c.x.view_is ∙ it) in
    let tg : c.short.result ≡ short bounds c.args.sender.now.tg = c.short.ensures.value ∙ ap (short bounds) c.tg_of.ensures.value in
    c.lack_behind.ensures ∙ ap (λ g. walked.gap_lack g c.max.result c.x.inside.moment) tg
    ∙ ap (λ e. walked.gap_lack (short bounds c.args.sender.now.tg) e c.x.inside.moment) c.max.ensures
    ∙ ap (walked.gap_lack (short bounds c.args.sender.now.tg) (max c.args.heard.begun_end c.args.watch.own_end)) moment
    ∙ gap_at (timers_of bounds c.args.table.now c.args.sender.now) bounds c.args.table.now c.args.list.now c.args.sender.now.number c.args.i c.args.watch c.args.heard y
    c.requires.sound c.requires.order at mine (c.requires.heard y at) c.requires.watch
