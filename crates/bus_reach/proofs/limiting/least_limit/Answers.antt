use Rattle.std.proofs.Common.{◌∙◌}
use Rattle.bus_reach.proofs.LimitLemmas.{least_found}
use Rattle.bus_reach.proofs.limiting.least_limit.Goals as goal

pub returns : goal.returns
returns c =
    least_found c.args.table.now c.args.first.now c.number.result c.from.result c.ti-valid.ensures.valid c.requires c.number.ensures.value
    (c.from.ensures ∙ c.tg.ensures.value)
