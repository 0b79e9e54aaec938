use Rattle.std.proofs.Common.{◌-◌, arith, sym, length, ◌∙◌, ap}
use Rattle.bus_strings.specs.Messages.{Entry}
use Rattle.bus_strings.specs.Transmissions.{end_of}
use Rattle.bus_trace.proofs.Lasts.{of_last_is, end_most}
use Rattle.bus_trace.proofs.list.last_end.Goals as goal

pub returns-in-Some-clause-value : goal.returns-in-Some-clause-value
returns-in-Some-clause-value c =
    let item = c.in-Some.ensures.item in
    let k = of_last_is end_of c.args.list.now (length c.args.list.now - 1) c.in-Some.last.now (omega (arith, item.3.0)) item.1 in
    c.end.ensures.value ∙ sym k

pub returns-in-Some-clause-room : goal.returns-in-Some-clause-room
returns-in-Some-clause-room c =
    let moment = ap (λ (x : Entry). x.moment) c.last-in-Some.view_is in
    let k = end_most c.in-Some.last.now c.end.ensures.ranges (omega (arith, moment, c.last-in-Some.invariant.2)) in
    omega (arith, k, c.end.ensures.value)
