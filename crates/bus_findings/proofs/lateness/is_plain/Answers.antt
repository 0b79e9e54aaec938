use Rattle.std.specs.Prelude.{max, option_map, slice_get, slice_range}
use Rattle.std.proofs.Common.{◌≡◌, ℕ, ◌+◌, ◌<◌, ◌≤◌, true, List, length, take, get_or, Some, None, arith, refl, ap, sym, ◌∙◌}
use Rattle.std.proofs.lemmas.Option.{slice_get-get_or}
use Rattle.bus_strings.specs.Messages.{Entry}
use Rattle.bus_bounds.specs.Bounds.{long}
use Rattle.bus_recording.specs.Seen.{Seen}
use Rattle.bus_recording.specs.Walk as walk
use Rattle.bus_findings.specs.Recorded.{seen, recorded, reach, timers_of, monitor_of}
use Rattle.bus_findings.specs.inside.Calm.{end_before, rules_out}
use Rattle.bus_findings.specs.inside.Standing.{latest_end}
use Rattle.bus_findings.specs.inside.Walked as walked
use Rattle.bus_findings.proofs.JudgeLemmas.{stretch_to}
use Rattle.bus_findings.proofs.PlaceLemmas.{read_is}
use Rattle.bus_findings.proofs.QuietLemmas.{latest_covers, latest_reached, walk_is_plain}
use Rattle.bus_findings.proofs.WalkLemmas.{due_at, due_same}
use Rattle.bus_findings.proofs.lateness.is_plain.Goals as goal

pub returns : goal.returns
returns c = λ o y there at holds.
    let bounds = c.args.bounds in
    let table = c.args.table.now in
    let list = c.args.list.now in
    let i : ℕ = c.args.i in
    let place : ℕ = c.args.last.place in
    let quiet = c.args.heard.quiet in
    let over = c.over_behind-over.result in
    let part : List Seen = recorded bounds (slice_range list (place + 1) i) in
    let from : ℕ = max (max (monitor_of bounds table).settled (seen bounds o).latest) c.args.last.latest in
    let own : c.index-list-last.result ≡ o = read_is list place c.index-list-last.result o c.index-list-last.is there in
    let it : c.index-list-i.result ≡ y = read_is list i c.index-list-i.result y c.index-list-i.is at in
    let begun : c.o.inside.moment ≡ o.moment = ap (λ (x : Entry). x.moment) (c.o.view_is ∙ own) in
    let moment : c.x.inside.moment ≡ y.moment = ap (λ (x : Entry). x.moment) (c.x.view_is ∙ it) in
    let within : quiet.place < length list = omega (arith, c.requires.heard.quiet.place, c.requires.here) in
    let x : Entry = get_or list quiet.place o in
    let x_at : slice_get list quiet.place ≡ Some x = slice_get-get_or list quiet.place o within in
    let told : rules_out quiet place over c.saturating_sub-end.result y.moment x.moment ≡ true =
    ap (λ m. rules_out quiet place over c.saturating_sub-end.result m x.moment) (sym moment) ∙ sym (c.rules_out.ensures x x_at) ∙ holds in
    let latest : c.args.last.latest ≡ latest_end (reach bounds) (recorded bounds (take place list)) = c.requires.last.at.latest in
    let covers : end_before bounds list place ≤ from = omega (arith, latest, latest_covers bounds list place) in
    let least : c.saturating_sub-end.result ≤ end_before bounds list i =
    omega (arith, c.saturating_sub-end.ensures, c.requires.heard.latest, latest_reached bounds list i, c.reach.ensures.value) in
    let none : walk.first_due (reach bounds) over.sync_gap over.terminal_gap over.interval y.moment from None part ≡ None =
    walk_is_plain bounds list i place c.saturating_sub-end.result y.moment from quiet over o x c.requires.heard.quiet there x_at covers (omega arith) least told in
    let never : walked.due (reach bounds) over.sync_gap over.terminal_gap over.interval y.moment from part ≡ None =
    ap (option_map (walked.due_at over.interval over.terminal_gap (walk.first_elapsed (reach bounds) over.sync_gap y.moment from None part))) none in
    let interval : over.interval ≡ o.moment + long bounds table.ti = omega (arith, c.over_behind-over.ensures.interval, begun) in
    let some_sg : 0 < long bounds table.sg = omega (arith, c.sg_of.ensures.some, c.sg_of.ensures.value) in
    let some_tg : 0 < long bounds c.args.sender.now.tg = omega (arith, c.tg_of.ensures.some, c.tg_of.ensures.value) in
    sym (due_at c.walks_find.ensures.due c.walks_find.ensures.not_due c.walks_find.ensures.elapsed (timers_of bounds table c.args.sender.now) bounds table list
    c.args.sender.now.number i y.moment c.args.last o c.requires.last.at
    (stretch_to bounds list c.args.sender.now.number i c.args.last y c.requires.order at c.requires.here c.requires.last) there some_sg some_tg)
    ∙ sym (due_same (reach bounds) over.sync_gap (long bounds table.sg) over.terminal_gap (long bounds c.args.sender.now.tg) over.interval (o.moment + long bounds table.ti)
    y.moment from from part c.over_behind-over.ensures.sync c.over_behind-over.ensures.gap interval refl)
    ∙ never
