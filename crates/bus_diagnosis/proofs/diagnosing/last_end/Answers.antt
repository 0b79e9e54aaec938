use Rattle.std.proofs.Common.{◌-◌, arith, sym, length, ◌∙◌}
use Rattle.bus_strings.specs.Transmissions.{end_of}
use Rattle.bus_trace.proofs.Lasts.{of_last_is}
use Rattle.bus_diagnosis.proofs.diagnosing.last_end.Goals as goal

pub returns-in-Some : goal.returns-in-Some
returns-in-Some c =
    let item = c.in-Some.ensures.item in
    c.end.ensures.value ∙ sym (of_last_is end_of c.args.list.now (length c.args.list.now - 1) c.in-Some.last.now (omega (arith, item.3.0)) item.1)
