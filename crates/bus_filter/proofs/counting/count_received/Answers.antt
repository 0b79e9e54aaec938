use Rattle.std.proofs.Common.{arith, ap, length}
use Rattle.bus_filter.proofs.CountLemmas.{takers_counted}
use Rattle.bus_table.proofs.TerminalLaws.{few_terminals}
use Rattle.bus_filter.proofs.counting.count_received.Goals as goal

pub count_senders-requires-clause-few : goal.count_senders-requires-clause-few
count_senders-requires-clause-few c = omega (arith, (few_terminals c.args.table.now c.senders.ensures.valid).0, ap length c.senders.ensures.value)

pub count_listeners-requires-clause-few : goal.count_listeners-requires-clause-few
count_listeners-requires-clause-few c = omega (arith, (few_terminals c.args.table.now c.listeners.ensures.valid).1, ap length c.listeners.ensures.value)

pub returns : goal.returns
returns c =
    let e = takers_counted c.args.table.now c.args.list.now c.senders.result.now c.listeners.result.now c.senders.ensures.value c.listeners.ensures.value in
    omega (arith, e, c.count_senders.ensures.count, c.count_listeners.ensures.count)
