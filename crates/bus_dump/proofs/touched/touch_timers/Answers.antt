use Rattle.std.proofs.Common.{◌<◌, ◌≤◌, length, arith, refl, ap, ◌∙◌, sym}
use Rattle.std.specs.List.{find}
use Rattle.std.proofs.lemmas.List.{take_all}
use Rattle.bus_dump.specs.Signals.{no_elapsed, tells_of}
use Rattle.bus_dump.proofs.TouchLemmas.{timers_more}
use Rattle.bus_dump.proofs.touched.touch_timers.Goals as goal

pub loop-k-init : goal.loop-k-init
loop-k-init c n h e = (e, refl)

pub loop-k-preserved : goal.loop-k-preserved
loop-k-preserved c =
    let within : c.loop-k.k < length c.args.before.now = omega arith in
    let fits : c.loop-k.k < length c.args.now.now = omega (arith, c.requires) in
    timers_more c.args.touched.now c.loop-k.touched c.touch_timer.new.touched c.args.before.now c.args.now.now c.loop-k.k no_elapsed no_elapsed within fits
    c.loop-k.invariant c.touch_timer.ensures

pub returns : goal.returns
returns c n h e =
    let so = c.loop-k.invariant n h e in
    let all : length c.args.before.now ≤ c.loop-k.k = omega arith in
    let most : length c.args.now.now ≤ c.loop-k.k = omega (arith, c.requires) in
    (so.0, ap (find (tells_of n)) (sym (take_all c.loop-k.k c.args.before.now all)) ∙ so.1 ∙ ap (find (tells_of n)) (take_all c.loop-k.k c.args.now.now most))
