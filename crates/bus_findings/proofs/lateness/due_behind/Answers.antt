use Rattle.std.specs.Prelude.{max, slice_range}
use Rattle.std.proofs.Common.{◌≡◌, ◌<◌, ℕ, ◌+◌, List, arith, ap, ◌∙◌}
use Rattle.bus_strings.specs.Messages.{Entry}
use Rattle.bus_recording.specs.Seen.{Seen}
use Rattle.bus_bounds.specs.Bounds.{long}
use Rattle.bus_findings.specs.Recorded.{seen, recorded, reach, timers_of, monitor_of}
use Rattle.bus_findings.proofs.PlaceLemmas.{read_is}
use Rattle.bus_findings.proofs.WalkLemmas.{due_at, due_same}
use Rattle.bus_findings.proofs.lateness.due_behind.Goals as goal

pub returns : goal.returns
returns c = λ o there.
    let bounds = c.args.bounds in
    let table = c.args.table.now in
    let list = c.args.list.now in
    let settled : ℕ = (monitor_of bounds table).settled in
    let part : List Seen = recorded bounds (slice_range list (c.args.last.place + 1) c.args.to) in
    let own : c.index-list-last.result ≡ o = read_is list c.args.last.place c.index-list-last.result o c.index-list-last.is there in
    let moment : c.o.inside.moment ≡ o.moment = ap (λ (x : Entry). x.moment) (c.o.view_is ∙ own) in
    let end : c.latest.result ≡ (seen bounds o).latest = c.latest.ensures.value ∙ ap (λ (x : Entry). (seen bounds x).latest) own in
    let sg : c.long-sg.result ≡ long bounds table.sg = c.long-sg.ensures.value ∙ ap (long bounds) c.sg_of.ensures.value in
    let tg : c.long-tg.result ≡ long bounds c.args.sender.now.tg = c.long-tg.ensures.value ∙ ap (long bounds) c.tg_of.ensures.value in
    let ti : c.long.result ≡ long bounds table.ti = c.long.ensures.value ∙ ap (long bounds) c.ti_of.ensures.value in
    let over : c.o.inside.moment + c.long.result ≡ o.moment + long bounds table.ti = omega (arith, moment, ti) in
    let first : c.max.result ≡ max settled (seen bounds o).latest = c.max.ensures ∙ ap (λ n. max n c.latest.result) c.requires.settled ∙ ap (max settled) end in
    let from : c.max-from.result ≡ max (max settled (seen bounds o).latest) c.args.last.latest = c.max-from.ensures ∙ ap (λ n. max n c.args.last.latest) first in
    let some_sg : 0 < long bounds table.sg = omega (arith, c.sg_of.ensures.some, c.sg_of.ensures.value) in
    let some_tg : 0 < long bounds c.args.sender.now.tg = omega (arith, c.tg_of.ensures.some, c.tg_of.ensures.value) in
    c.due.ensures ∙ due_same (reach bounds) _ _ _ _ _ _ c.args.start _ _ part sg tg over from
    ∙ due_at c.walks_find.ensures.due c.walks_find.ensures.not_due c.walks_find.ensures.elapsed (timers_of bounds table c.args.sender.now) bounds table list
    c.args.sender.now.number c.args.to c.args.start c.args.last o c.requires.last c.requires.stretch there some_sg some_tg
