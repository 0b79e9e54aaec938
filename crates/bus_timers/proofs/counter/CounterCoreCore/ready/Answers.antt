use Rattle.std.proofs.Common.{subst, eq-eqb, eqb-true, true, ◌↔◌, eqb, ◌≡◌}
use Rattle.bus_timers.specs.MayStart.{MayStart}
use Rattle.bus_timers.proofs.CountersLemmas.{counters_ready}
use Rattle.bus_timers.proofs.counter.CounterCoreCore.ready.Goals as goal

pub returns-then-self-eq0 : goal.returns-then-self-eq0
returns-then-self-eq0 c timing past last h =
    let core = c.args.self.now in
    let both = counters_ready core.timing core.wait core.quiet core.gap past last h.1 in
    subst (λ t. (eqb core.gap core.timing.tg ≡ true) ↔ MayStart t past last) h.0
    ((λ e. both.0 (c.if-self-eq0.true, eqb-true core.gap core.timing.tg e)), (λ may. eq-eqb core.gap core.timing.tg (both.1 may).1))
