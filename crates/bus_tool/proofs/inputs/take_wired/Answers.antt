use Rattle.bus_tool.proofs.CableLemmas.{wired_taken}
use Rattle.bus_tool.proofs.inputs.take_wired.Goals as goal

pub returns-clause-takes : goal.returns-clause-takes
returns-clause-takes g c = wired_taken _ _ c.args.table.now (c.in_ok-cable.cable, c.in_ok-cable.items) c.deal.result c.in_ok-cable.ensures.takes c.deal.ensures.gives c.deal.ensures.fails
