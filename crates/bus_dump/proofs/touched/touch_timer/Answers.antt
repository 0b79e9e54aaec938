use Rattle.std.proofs.Common.{◌∷◌, [], set, true, arith, ap, ◌≡◌, ◌<◌, length, ◌∙◌}
use Rattle.std.specs.List.{find}
use Rattle.std.proofs.lemmas.List.{length-set}
use Rattle.bus_dump.specs.Signals.{tells_of}
use Rattle.bus_dump.specs.Timers.{Elapsed}
use Rattle.bus_dump.proofs.TouchLemmas.{none_tells, untouched}
use Rattle.bus_dump.proofs.touched.touch_timer.Goals as goal

pub returns-then-is_same : goal.returns-then-is_same
returns-then-is_same c n h e = (e, ap (λ (x : Elapsed). find (tells_of n) (x ∷ [])) (c.is_same.ensures c.if-is_same.true))

pub returns : goal.returns
returns c n h e =
    let long : length c.args.touched.now ≡ 256 = omega arith in
    let kept : length (set c.args.touched.now c.args.was.terminal true) ≡ 256 = length-set c.args.touched.now c.args.was.terminal true ∙ long in
    let low : c.args.was.terminal < 256 = omega arith in
    let low' : c.args.is.terminal < 256 = omega arith in
    let second = untouched (set c.args.touched.now c.args.was.terminal true) n c.args.is.terminal (omega (arith, low', kept)) e in
    let first = untouched c.args.touched.now n c.args.was.terminal (omega (arith, low, long)) second.was in
    (first.was, none_tells n c.args.was c.args.is first.other second.other)
