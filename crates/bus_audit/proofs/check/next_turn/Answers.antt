use Rattle.std.proofs.Common.{◌≡◌, ◌<◌, ◌≤◌, length, get_or, arith, sym, subst}
use Rattle.std.proofs.lemmas.List.{length-map}
use Rattle.std.proofs.lemmas.Option.{slice_get-get_or}
use Rattle.bus_audit.specs.declared.lazy_timers.LazyTimers.{LazyTimers}
use Rattle.bus_audit.specs.declared.watch.Watch.{Watch}
use Rattle.bus_audit.specs.inside.Watches.{turn, IsLow}
use Rattle.bus_audit.specs.inside.Keeping.{watch_of, watches_of}
use Rattle.bus_audit.proofs.Watching.{first_none, first_more, first_all}
use Rattle.bus_audit.proofs.Keeping.{watch_at, low_lazy}
use Rattle.bus_audit.proofs.check.next_turn.Goals as goal

pub loop-lazy-init : goal.loop-lazy-init
loop-lazy-init c = first_none c.args.quiet c.args.from c.args.limit (watches_of c.args.heard c.args.timers.now)

pub loop-lazy-preserved : goal.loop-lazy-preserved
loop-lazy-preserved c =
    let i = c.loop-lazy.lazy-index in
    let ks = c.args.timers.now in
    let none : LazyTimers = record { watch = record { number = 0; timing = record { ti = 0; sg = 0; tg = 0; quiet = 0; due = 0 }; due = 0; gap = 0; left = 0 }; last = 0; behind = 0; soon = 0 } in
    let within : i < length ks = omega arith in
    let k : LazyTimers = get_or ks i none in
    let at = slice_get-get_or ks i none within in
    let e = c.earlier-first.ensures in
    first_more c.args.quiet c.args.from c.args.limit (watches_of c.args.heard ks) i c.loop-lazy.first c.earlier-first.result (watch_of c.args.heard k) c.loop-lazy.invariant
    (watch_at c.args.heard ks i k at)
    (subst (λ (v : Watch). 0 < v.left → c.earlier-first.result ≤ turn c.args.quiet c.args.from v) c.watch.ensures e.none)
    (subst (λ (v : Watch). c.earlier-first.result < c.loop-lazy.first → c.earlier-first.result ≡ turn c.args.quiet c.args.from v) c.watch.ensures e.turn)
    (subst (λ (v : Watch). c.earlier-first.result < c.loop-lazy.first → 0 < v.left) c.watch.ensures e.left) e.most

pub returns-clause-none : goal.returns-clause-none
returns-clause-none c = first_all c.args.quiet c.args.from c.args.limit (watches_of c.args.heard c.args.timers.now) c.loop-lazy.lazy-index c.loop-lazy.first c.loop-lazy.invariant (omega (arith, length-map c.args.timers.now (watch_of c.args.heard)))

pub watch-requires : goal.watch-requires
watch-requires c =
    let i = c.loop-lazy.lazy-index in
    let ks = c.args.timers.now in
    let none : LazyTimers = record { watch = record { number = 0; timing = record { ti = 0; sg = 0; tg = 0; quiet = 0; due = 0 }; due = 0; gap = 0; left = 0 }; last = 0; behind = 0; soon = 0 } in
    let within : i < length ks = omega arith in
    low_lazy c.args.heard ks i (get_or ks i none) c.requires.low (slice_get-get_or ks i none within)

pub earlier-first-requires-clause-low : goal.earlier-first-requires-clause-low
earlier-first-requires-clause-low c =
    let i = c.loop-lazy.lazy-index in
    let ks = c.args.timers.now in
    let none : LazyTimers = record { watch = record { number = 0; timing = record { ti = 0; sg = 0; tg = 0; quiet = 0; due = 0 }; due = 0; gap = 0; left = 0 }; last = 0; behind = 0; soon = 0 } in
    let within : i < length ks = omega arith in
    subst IsLow (sym c.watch.ensures) (low_lazy c.args.heard ks i (get_or ks i none) c.requires.low (slice_get-get_or ks i none within))
