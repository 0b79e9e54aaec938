use Rattle.std.proofs.Common.{◌-◌, arith, sym, length, ◌∙◌, ap}
use Rattle.bus_strings.specs.Messages.{Entry}
use Rattle.bus_trace.proofs.Lasts.{of_last_is}
use Rattle.bus_trace.proofs.list.last_sender.Goals as goal

pub returns-in-Some : goal.returns-in-Some
returns-in-Some c =
    let item = c.in-Some.ensures.item in
    let k = of_last_is (λ (x : Entry). x.terminal) c.args.list.now (length c.args.list.now - 1) c.in-Some.last.now (omega (arith, item.3.0)) item.1 in
    ap (λ (x : Entry). x.terminal) c.last-in-Some.view_is ∙ sym k
