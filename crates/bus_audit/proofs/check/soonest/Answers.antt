use Rattle.std.proofs.Common.{◌<◌, length, get_or, arith}
use Rattle.std.proofs.lemmas.Option.{slice_get-get_or}
use Rattle.bus_audit.specs.declared.lazy_timers.LazyTimers.{LazyTimers}
use Rattle.bus_audit.proofs.Keeping.{soon_none, soon_more, soon_all}
use Rattle.bus_audit.proofs.check.soonest.Goals as goal

pub loop-lazy-init : goal.loop-lazy-init
loop-lazy-init c = soon_none 18446744073709551615 c.args.timers.now

pub loop-lazy-preserved : goal.loop-lazy-preserved
loop-lazy-preserved c =
    let ks = c.args.timers.now in
    let i = c.loop-lazy.lazy-index in
    let none : LazyTimers = record { watch = record { number = 0; timing = record { ti = 0; sg = 0; tg = 0; quiet = 0; due = 0 }; due = 0; gap = 0; left = 0 }; last = 0; behind = 0; soon = 0 } in
    let within : i < length ks = omega arith in
    soon_more c.loop-lazy.first c.min-first.result ks i (get_or ks i none) c.loop-lazy.invariant (slice_get-get_or ks i none within) (omega arith) (omega arith)

pub returns : goal.returns
returns c = soon_all c.args.heard c.loop-lazy.first c.args.timers.now c.loop-lazy.lazy-index c.loop-lazy.invariant (omega arith) c.requires
