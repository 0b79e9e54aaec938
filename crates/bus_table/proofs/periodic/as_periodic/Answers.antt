use Rattle.std.proofs.Common.{◌∙◌}
use Rattle.bus_table.proofs.PeriodicLaws.{made_valid}
use Rattle.bus_table.proofs.periodic.as_periodic.Goals as goal

pub of_parts-requires : goal.of_parts-requires
of_parts-requires c =
    let senders = c.in_ok-senders.ensures ∙ c.senders.ensures.value in
    let listeners = c.in_ok-listeners.ensures ∙ c.listeners.ensures.value in
    made_valid c.args.table.now c.args.ti c.sg.result c.in_ok-senders.senders.items c.in_ok-listeners.listeners.items
    c.sg.ensures.valid c.requires.aperiodic c.requires.range c.sg.ensures.value senders listeners
