use Rattle.std.proofs.Common.{◌-◌, arith, length, ap, sym, ◌∙◌}
use Rattle.bus_table.specs.Tables.{Listener}
use Rattle.bus_table.proofs.LastLemmas.{last_is}
use Rattle.bus_table.proofs.draft.last_heard.Goals as goal

pub returns-in-Some : goal.returns-in-Some
returns-in-Some c =
    let item = c.in-Some.ensures.item in
    ap length c.takes.ensures.value ∙ sym (last_is (λ (x : Listener). length x.takes) c.args.listeners.now (length c.args.listeners.now - 1) c.in-Some.listener.now (omega (arith, item.3.0)) item.1)
