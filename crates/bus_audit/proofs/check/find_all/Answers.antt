use Rattle.std.proofs.Common.{◌<◌, length, get_or, arith, refl, sym, ◌∙◌}
use Rattle.std.proofs.lemmas.Option.{slice_get-get_or}
use Rattle.bus_medium.proofs.Stretching.{each_more, each_all}
use Rattle.bus_audit.specs.declared.lazy_timers.LazyTimers.{LazyTimers}
use Rattle.bus_audit.proofs.Keeping.{Told, low_lazy, all_same, all_early, all_kept, soon_none, soon_set, soon_all}
use Rattle.bus_audit.proofs.check.find_all.Goals as goal

pub find_soon-requires : goal.find_soon-requires
find_soon-requires c =
    let i = c.loop-lazy.lazy-index in
    let none : LazyTimers = record { watch = record { number = 0; timing = record { ti = 0; sg = 0; tg = 0; quiet = 0; due = 0 }; due = 0; gap = 0; left = 0 }; last = 0; behind = 0; soon = 0 } in
    let within : i < length c.loop-lazy.timers = omega arith in
    low_lazy c.args.heard c.args.timers.now i (get_or c.loop-lazy.timers i none) c.requires (sym (c.loop-lazy.invariant.told.rest i (omega arith)) ∙ slice_get-get_or c.loop-lazy.timers i none within)

pub loop-lazy-init : goal.loop-lazy-init
loop-lazy-init c = record {
  told = record { same_length = refl; done = λ j x y below in_xs in_ys. absurd (omega (arith, below)); rest = λ j low. refl };
  soon = soon_none 18446744073709551615 c.args.timers.now;
}

pub loop-lazy-preserved : goal.loop-lazy-preserved
loop-lazy-preserved c =
    let i = c.loop-lazy.lazy-index in
    let none : LazyTimers = record { watch = record { number = 0; timing = record { ti = 0; sg = 0; tg = 0; quiet = 0; due = 0 }; due = 0; gap = 0; left = 0 }; last = 0; behind = 0; soon = 0 } in
    let within : i < length c.loop-lazy.timers = omega arith in
    record {
      told = each_more (Told c.args.heard) c.args.timers.now c.loop-lazy.timers i (get_or c.loop-lazy.timers i none) c.find_soon.new.self c.loop-lazy.invariant.told within (slice_get-get_or c.loop-lazy.timers i none within) c.find_soon.ensures;
      soon = soon_set c.loop-lazy.first c.min-first.result c.loop-lazy.timers i c.find_soon.new.self c.loop-lazy.invariant.soon within (omega arith) (omega arith);
    }

pub returns-clause-same : goal.returns-clause-same
returns-clause-same c = all_same c.args.heard c.args.timers.now c.loop-lazy.timers (each_all (Told c.args.heard) c.args.timers.now c.loop-lazy.timers c.loop-lazy.lazy-index c.loop-lazy.invariant.told (omega arith))

pub returns-clause-kept : goal.returns-clause-kept
returns-clause-kept c = all_kept c.args.heard c.args.timers.now c.loop-lazy.timers (each_all (Told c.args.heard) c.args.timers.now c.loop-lazy.timers c.loop-lazy.lazy-index c.loop-lazy.invariant.told (omega arith))

pub returns-clause-first : goal.returns-clause-first
returns-clause-first c =
    let told = each_all (Told c.args.heard) c.args.timers.now c.loop-lazy.timers c.loop-lazy.lazy-index c.loop-lazy.invariant.told (omega arith) in
    soon_all c.args.heard c.loop-lazy.first c.loop-lazy.timers c.loop-lazy.lazy-index c.loop-lazy.invariant.soon (omega arith)
    (all_early c.args.heard c.args.timers.now c.loop-lazy.timers told)
