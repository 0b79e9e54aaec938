use Rattle.std.proofs.Common.{◌<◌, length, get_or, arith, sym, ◌∙◌}
use Rattle.std.proofs.lemmas.Option.{slice_get-get_or}
use Rattle.bus_medium.proofs.Stretching.{each_more, each_all}
use Rattle.bus_audit.specs.declared.lazy_timers.LazyTimers.{LazyTimers}
use Rattle.bus_audit.proofs.Keeping.{Put, low_lazy, all_put}
use Rattle.bus_audit.proofs.walk.pass_each.Goals as goal

pub pass-requires : goal.pass-requires
pass-requires c =
    let i = c.loop-lazy.lazy-index in
    let none : LazyTimers = record { watch = record { number = 0; timing = record { ti = 0; sg = 0; tg = 0; quiet = 0; due = 0 }; due = 0; gap = 0; left = 0 }; last = 0; behind = 0; soon = 0 } in
    let within : i < length c.loop-lazy.timers = omega arith in
    low_lazy c.args.heard c.args.timers.now i (get_or c.loop-lazy.timers i none) c.requires.low (sym (c.loop-lazy.invariant.rest i (omega arith)) ∙ slice_get-get_or c.loop-lazy.timers i none within)

pub loop-lazy-preserved : goal.loop-lazy-preserved
loop-lazy-preserved c =
    let i = c.loop-lazy.lazy-index in
    let none : LazyTimers = record { watch = record { number = 0; timing = record { ti = 0; sg = 0; tg = 0; quiet = 0; due = 0 }; due = 0; gap = 0; left = 0 }; last = 0; behind = 0; soon = 0 } in
    let within : i < length c.loop-lazy.timers = omega arith in
    each_more (Put c.args.heard c.args.from) c.args.timers.now c.loop-lazy.timers i (get_or c.loop-lazy.timers i none) c.pass.new.self c.loop-lazy.invariant within (slice_get-get_or c.loop-lazy.timers i none within) c.pass.ensures

pub returns : goal.returns
returns c = all_put c.args.heard c.args.from c.args.timers.now c.loop-lazy.timers (each_all (Put c.args.heard c.args.from) c.args.timers.now c.loop-lazy.timers c.loop-lazy.lazy-index c.loop-lazy.invariant (omega arith))
