use Rattle.std.specs.Prelude.{max, min, nat_le, nat_lt, slice_get, slice_range}
use Rattle.std.proofs.Common.{◌≡◌, ℕ, ◌+◌, ◌-◌, ◌<◌, ◌≤◌, List, length, take, get_or, Some, arith, ap, sym, ◌∙◌}
use Rattle.std.proofs.lemmas.Bool.{and_parts, leb-true, ltb-true}
use Rattle.std.proofs.lemmas.Option.{slice_get-get_or}
use Rattle.bus_strings.specs.Messages.{Entry}
use Rattle.bus_recording.specs.Seen.{Seen}
use Rattle.bus_recording.specs.Walk as walk
use Rattle.bus_bounds.specs.Bounds.{short}
use Rattle.bus_findings.specs.Recorded.{seen, recorded, reach, timers_of}
use Rattle.bus_findings.specs.inside.Standing.{others_end}
use Rattle.bus_findings.proofs.PlaceLemmas.{read_is}
use Rattle.bus_findings.proofs.PlainLemmas.{room_within, from_ended}
use Rattle.bus_findings.proofs.WalkLemmas.{sync_at, room_same}
use Rattle.bus_findings.proofs.lacks.sync_lack.Goals as goal

pub returns : goal.returns
returns c = λ o y there at mine.
    let bounds = c.args.bounds in
    let list = c.args.list.now in
    let part : List Seen = recorded bounds (slice_range list (c.args.last.place + 1) c.args.i) in
    let law = sync_at c.walks_find.ensures.sync c.walks_find.ensures.no_sync (timers_of bounds c.args.table.now c.args.sender.now) bounds c.args.table.now
    list c.args.sender.now.number c.args.i c.args.last o y c.requires.near c.requires.sound c.requires.order c.requires.last there at mine in
    let own : c.index-list-last.result ≡ o = read_is list c.args.last.place c.index-list-last.result o c.index-list-last.is there in
    let it : c.index-list-i.result ≡ y = read_is list c.args.i c.index-list-i.result y c.index-list-i.is at in
    let end : c.soonest.result ≡ (seen bounds o).soonest = c.soonest.ensures.value ∙ ap (λ (x : Entry). (seen bounds x).soonest) own in
    let from : c.max-from.result ≡ max (seen bounds o).soonest c.args.last.others = c.max-from.ensures ∙ ap (λ n. max n c.args.last.others) end in
    let gap : c.short-gap.result ≡ short bounds c.args.sender.now.tg = c.short-gap.ensures.value ∙ ap (short bounds) c.tg_of.ensures.value in
    let moment : c.x.inside.moment ≡ y.moment = ap (λ (x : Entry). x.moment) (c.x.view_is ∙ it) in
    let room : c.longest_room-room.result ≡ walk.longest_room (reach bounds) (short bounds c.args.sender.now.tg) y.moment (max (seen bounds o).soonest c.args.last.others) part =
    c.longest_room-room.ensures ∙ room_same (reach bounds) _ _ _ _ _ _ part gap moment from in
    omega (arith, law, room, c.shortest_sync-sync.ensures.value, c.saturating_sub.ensures, c.max.ensures, c.from.ensures)

pub returns-then-has_room : goal.returns-then-has_room
returns-then-has_room c = λ o y there at mine.
    let bounds = c.args.bounds in
    let list = c.args.list.now in
    let quiet = c.args.heard.quiet in
    let place : ℕ = c.args.last.place in
    let sync : ℕ = c.shortest_sync-sync.result in
    let part : List Seen = recorded bounds (slice_range list (place + 1) c.args.i) in
    let law = sync_at c.walks_find.ensures.sync c.walks_find.ensures.no_sync (timers_of bounds c.args.table.now c.args.sender.now) bounds c.args.table.now
    list c.args.sender.now.number c.args.i c.args.last o y c.requires.near c.requires.sound c.requires.order c.requires.last there at mine in
    let it : c.index-list-i.result ≡ y = read_is list c.args.i c.index-list-i.result y c.index-list-i.is at in
    let moment : c.x.inside.moment ≡ y.moment = ap (λ (x : Entry). x.moment) (c.x.view_is ∙ it) in
    let gap : c.short-gap.result ≡ short bounds c.args.sender.now.tg = c.short-gap.ensures.value ∙ ap (short bounds) c.tg_of.ensures.value in
    let within : quiet.place < length list = omega (arith, c.requires.heard.quiet.place, c.requires.here) in
    let x : Entry = get_or list quiet.place o in
    let x_at : slice_get list quiet.place ≡ Some x = slice_get-get_or list quiet.place o within in
    let told = sym (c.has_room.ensures x x_at) ∙ c.if-has_room.true in
    let parts = and_parts (nat_lt place quiet.place) (nat_le (quiet.from + sync) (min (x.moment + reach bounds) c.saturating_sub-until.result)) told in
    let low : place < quiet.place = ltb-true place quiet.place parts.0 in
    let room : quiet.from + sync ≤ min (x.moment + reach bounds) c.saturating_sub-until.result =
    leb-true (quiet.from + sync) (min (x.moment + reach bounds) c.saturating_sub-until.result) parts.1 in
    let others : c.args.last.others ≡ others_end (recorded bounds (take place list)) c.args.sender.now.number = c.requires.last.at.others in
    let from : max (seen bounds o).soonest (others_end (recorded bounds (take place list)) c.args.sender.now.number) ≤ quiet.from =
    from_ended bounds list place quiet.place c.args.sender.now.number quiet.from o there low c.requires.heard.quiet.from in
    let walked : min (x.moment + reach bounds) (y.moment - short bounds c.args.sender.now.tg) - quiet.from
    ≤ walk.longest_room (reach bounds) (short bounds c.args.sender.now.tg) y.moment (max (seen bounds o).soonest c.args.last.others) part =
    room_within bounds list (reach bounds) (short bounds c.args.sender.now.tg) y.moment quiet.from (max (seen bounds o).soonest c.args.last.others) place quiet.place c.args.i
    o x there x_at low (omega (arith, c.requires.heard.quiet.place, low)) (omega (arith, from, others)) c.requires.heard.quiet.from in
    omega (arith, law, walked, room, moment, gap, c.saturating_sub-until.ensures, c.shortest_sync-sync.ensures.value)
