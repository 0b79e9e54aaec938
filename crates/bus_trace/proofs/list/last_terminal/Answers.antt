use Rattle.std.proofs.Common.{◌-◌, arith, length}
use Rattle.bus_trace.specs.declared.hold.Hold.{Hold}
use Rattle.bus_trace.proofs.Lasts.{of_last_is}
use Rattle.bus_trace.proofs.list.last_terminal.Goals as goal

pub returns-in-Some : goal.returns-in-Some
returns-in-Some c =
    let item = c.in-Some.ensures.item in
    let k = of_last_is (λ (hold : Hold). hold.terminal) c.args.holds.now (length c.args.holds.now - 1) c.in-Some.hold.now (omega (arith, item.3.0)) item.1 in
    omega (arith, k)
