use Rattle.std.proofs.Common.{◌∙◌}
use Rattle.bus_wave.proofs.SpacingLemmas.{is_spaced, spaced_passes}
use Rattle.bus_wave.proofs.spacing.spaced.Goals as goal

pub returns-clause-ok : goal.returns-clause-ok
returns-clause-ok c = is_spaced c.args.table.now c.args.trace.now c.first_fault.result c.first_fault.ensures

pub returns-clause-runs : goal.returns-clause-runs
returns-clause-runs c hands accepted even list horizon =
    c.first_fault.ensures ∙ spaced_passes c.args.table.now c.args.trace.now
    (c.runs_are_spaced.ensures.spaced c.args.table.now hands c.args.trace.now c.table_is_valid.ensures accepted even list horizon)
