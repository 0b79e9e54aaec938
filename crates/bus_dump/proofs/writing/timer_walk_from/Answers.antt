use Rattle.std.proofs.Common.{◌≡◌, ℕ, arith, subst}
use Rattle.bus_dump.specs.inside.TimerWalks.{IsReady}
use Rattle.bus_dump.proofs.writing.timer_walk_from.Goals as goal

pub returns-clause-ready : goal.returns-clause-ready
returns-clause-ready c =
    let i = c.loop-t.invariant in
    let at : c.loop-t.t ≡ c.args.from = omega (arith, i.low, c.loop-t-test.false) in
    subst (λ (t : ℕ). IsReady t c.loop-t.timer_walk) at i.ready
