use Rattle.std.proofs.Common.{◌∙◌}
use Rattle.bus_advice.proofs.Planning.{roomy_periodic}
use Rattle.bus_advice.proofs.plans.periodic_interval.Goals as goal

pub returns-clause-value : goal.returns-clause-value
returns-clause-value c = c.roomy_interval.ensures.value ∙ roomy_periodic c.args.table.now c.ti-valid.ensures.valid c.requires.aperiodic
