use Rattle.std.proofs.Common.{◌≡◌, ◌+◌, ◌-◌, ◌≤◌, arith, subst}
use Rattle.bus_medium.specs.inside.Lazy.{clocks_of, IsAlone}
use Rattle.bus_medium.proofs.first.next_start.Goals as goal

pub returns-then-first-clause-alone : goal.returns-then-first-clause-alone
returns-then-first-clause-alone c =
    let f = c.first_ready-first in
    let r = c.first_ready-first.result in
    let low : c.args.quiet + c.args.moment ≤ c.first_ready-first.result.ready = c.if-first-start.false in
    subst (λ v. IsAlone v (clocks_of c.args.idle.now.ended c.args.all_timers.now) r.place)
    (let h : c.first_ready-first.result.ready ≡ c.args.quiet + (c.first_ready-first.result.ready - c.args.quiet) = omega arith in h)
    (f.ensures.alone c.if-first.true)
