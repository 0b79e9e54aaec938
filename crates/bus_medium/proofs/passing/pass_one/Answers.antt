use Rattle.std.proofs.Common.{set, get_or}
use Rattle.std.proofs.lemmas.Option.{slice_get-get_or}
use Rattle.bus_medium.specs.declared.timers.Timers.{Timers}
use Rattle.bus_medium.proofs.TimersLemmas.{passed_now, passed_one, passed_after, passed_kept}
use Rattle.bus_medium.proofs.passing.pass_one.Goals as goal

pub returns-clause-after : goal.returns-clause-after
returns-clause-after c =
    let e = c.args.idle.now.ended in
    let none : Timers = record { sg = 0; tg = 0; told = 0; due = 0; behind = 0; over = 0 } in
    let ws = c.args.all_timers.now in
    let p = c.args.place in
    let old = get_or ws p none in
    let h = c.hear_busy.ensures in
    let v = c.hear_busy.new.self in
    passed_after e c.args.from c.args.to ws (set ws p v)
    (passed_one e c.args.idle.now.least c.args.from c.args.to ws p old v c.requires.ended c.requires.short c.requires.order c.requires.least c.requires.others (slice_get-get_or ws p none c.requires.others.0)
    (passed_now e c.args.from c.args.to old v h.clock h.counted h.near h.over))

pub returns-clause-kept : goal.returns-clause-kept
returns-clause-kept c =
    let e = c.args.idle.now.ended in
    let none : Timers = record { sg = 0; tg = 0; told = 0; due = 0; behind = 0; over = 0 } in
    let ws = c.args.all_timers.now in
    let p = c.args.place in
    let old = get_or ws p none in
    let h = c.hear_busy.ensures in
    let v = c.hear_busy.new.self in
    passed_kept e c.args.from c.args.to ws (set ws p v)
    (passed_one e c.args.idle.now.least c.args.from c.args.to ws p old v c.requires.ended c.requires.short c.requires.order c.requires.least c.requires.others (slice_get-get_or ws p none c.requires.others.0)
    (passed_now e c.args.from c.args.to old v h.clock h.counted h.near h.over))
