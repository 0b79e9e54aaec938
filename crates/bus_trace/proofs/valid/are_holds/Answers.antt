use Rattle.std.proofs.Common.{arith}
use Rattle.bus_trace.specs.declared.hold.Hold.{Hold}
use Rattle.bus_trace.specs.Traces.{IsHold}
use Rattle.bus_trace.proofs.Orders.{holds_more, all_at, terminal_at}
use Rattle.bus_trace.proofs.valid.are_holds.Goals as goal
use Rattle.bus_trace.proofs.valid.are_holds.Goals.{then-hold-last_terminal-via-then-hold-last_terminal}
use Rattle.bus_trace.proofs.valid.are_holds.Goals.{then-hold-last_terminal-via-else-hold-last_terminal+then-hold-gt-MOST_TERMINAL}

pub returns-then-hold-last_terminal : goal.returns-then-hold-last_terminal
returns-then-hold-last_terminal c =
    let none : Hold = record { terminal = 0; count = 0 } in
    elim c.then-hold-last_terminal.branch [
      | then-hold-last_terminal-via-then-hold-last_terminal w ↦ (
        λ t. absurd cc,
        λ f. absurd (omega (
          arith,
          terminal_at 0 c.args.holds.now c.loop-i.i none c.loop-i-test.true f.1,
          c.last_terminal.ensures,
          w.if-hold-last_terminal.true,
        )),
      )
      | then-hold-last_terminal-via-else-hold-last_terminal+then-hold-gt-MOST_TERMINAL w ↦ (
        λ t. absurd cc,
        λ f. absurd (omega (
          arith,
          (all_at IsHold c.args.holds.now c.loop-i.i none c.loop-i-test.true f.0).low,
          w.if-hold-gt-MOST_TERMINAL.true,
        )),
      )
    ]

pub loop-i-preserved : goal.loop-i-preserved
loop-i-preserved c =
    let none : Hold = record { terminal = 0; count = 0 } in
    let above = c.if-hold-last_terminal.false in
    let m = holds_more c.args.holds.now c.loop-i.i none c.loop-i-test.true c.loop-i.invariant.holds c.loop-i.invariant.ascend
    (omega (arith, c.last_terminal.ensures, above))
    (record { positive = omega (arith, above); low = c.if-hold-gt-MOST_TERMINAL.false; count = omega arith }) in
    record { holds = m.0; ascend = m.1 }
