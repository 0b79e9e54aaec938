use Rattle.std.proofs.Common.{◌-◌, arith, sym, length, ◌∙◌}
use Rattle.bus_trace.proofs.Lasts.{last_after_is}
use Rattle.bus_trace.proofs.list.is_after.Goals as goal

pub returns-in-Some : goal.returns-in-Some
returns-in-Some c =
    let item = c.in-Some.ensures.item in
    c.comes_after.ensures ∙ sym (last_after_is c.args.list.now
    (length c.args.list.now - 1) c.in-Some.last.now c.args.moment c.args.terminal (omega (arith, item.3.0)) item.1)
