use Rattle.bus_filter.proofs.CountLemmas.{none_counted}
use Rattle.bus_filter.proofs.PutLemmas.{empty}
use Rattle.bus_filter.proofs.counting.count_heard.Goals as goal

pub returns-then-is_empty-clause-count : goal.returns-then-is_empty-clause-count
returns-then-is_empty-clause-count c =
    none_counted c.args.list.now c.args.number c.args.takes.now (empty c.args.takes.now c.is_empty.result c.is_empty.ensures c.if-is_empty.true)
