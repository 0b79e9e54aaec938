use Rattle.std.proofs.Common.{◌∙◌}
use Rattle.bus_advice.proofs.Planning.{roomy_planned}
use Rattle.bus_advice.proofs.plans.planned_interval.Goals as goal

pub returns : goal.returns
returns c = c.roomy_interval.ensures.value ∙ roomy_planned c.args.table.now c.ti-valid.ensures.valid c.requires.periodic
