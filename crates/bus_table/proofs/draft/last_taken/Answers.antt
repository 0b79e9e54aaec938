use Rattle.std.proofs.Common.{◌-◌, arith, length, ap, sym, ◌∙◌}
use Rattle.bus_table.specs.Tables.{Sender}
use Rattle.bus_table.proofs.LastLemmas.{last_is}
use Rattle.bus_table.proofs.draft.last_taken.Goals as goal

pub returns-in-Some : goal.returns-in-Some
returns-in-Some c =
    let item = c.in-Some.ensures.item in
    ap length c.takes.ensures.value ∙ sym (last_is (λ (x : Sender). length x.takes) c.args.senders.now (length c.args.senders.now - 1) c.in-Some.sender.now (omega (arith, item.3.0)) item.1)
