use Rattle.std.proofs.Common.{◌≡◌, ◌-◌, ◌<◌, Some, length, arith, sym, ap, ◌∙◌}
use Rattle.bus_strings.specs.Messages.{Entry}
use Rattle.bus_findings.specs.inside.Counting.{apart_from, moment_at}
use Rattle.bus_findings.proofs.WatchLemmas.{moment_read}
use Rattle.bus_findings.proofs.watch.apart.Goals as goal

pub returns : goal.returns
returns c =
    let list = c.args.list.now in
    let low : c.in_ok-last.last.place < length list = omega (arith, c.requires.within, c.requires.last c.in_ok-last.last c.in_ok-last.was) in
    let first : moment_at list c.in_ok-last.last.place ≡ c.o.inside.moment =
    moment_read list c.in_ok-last.last.place c.index-list-last.result low c.index-list-last.is ∙ sym (ap (λ (x : Entry). x.moment) c.o.view_is) in
    let second : moment_at list c.args.i ≡ c.x.inside.moment =
    moment_read list c.args.i c.index-list-i.result c.requires.within c.index-list-i.is ∙ sym (ap (λ (x : Entry). x.moment) c.x.view_is) in
    let n : c.saturating_sub.result ≡ moment_at list c.args.i - moment_at list c.in_ok-last.last.place = omega (arith, first, second, c.saturating_sub.ensures) in
    ap Some n ∙ sym (ap (λ l. apart_from list l c.args.i) c.in_ok-last.was)
