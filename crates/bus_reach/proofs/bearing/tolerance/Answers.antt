use Rattle.std.proofs.Common.{sym, ◌∙◌}
use Rattle.bus_table.specs.declared.mode.Mode.TheVariants.{Aperiodic, Periodic}
use Rattle.bus_reach.proofs.ToldLemmas.{found_in, below_found}
use Rattle.bus_reach.proofs.bearing.tolerance.Goals as goal

pub returns-in-Aperiodic-clause-value : goal.returns-in-Aperiodic-clause-value
returns-in-Aperiodic-clause-value c =
    found_in Aperiodic c.args.table.now c.tolerance.result (sym c.mode.ensures.value ∙ c.in-Aperiodic.is) c.table_is_valid.ensures
    c.tolerance.ensures.alone c.tolerance.ensures.greatest

pub returns-in-Aperiodic-clause-bound : goal.returns-in-Aperiodic-clause-bound
returns-in-Aperiodic-clause-bound c =
    below_found Aperiodic c.args.table.now c.tolerance.result (sym c.mode.ensures.value ∙ c.in-Aperiodic.is) c.table_is_valid.ensures
    c.tolerance.ensures.alone c.tolerance.ensures.greatest

pub returns-in-Periodic-clause-value : goal.returns-in-Periodic-clause-value
returns-in-Periodic-clause-value c =
    found_in Periodic c.args.table.now c.tolerance-in-Periodic.result (sym c.mode.ensures.value ∙ c.in-Periodic.is) c.table_is_valid.ensures
    c.tolerance-in-Periodic.ensures.alone c.tolerance-in-Periodic.ensures.greatest

pub returns-in-Periodic-clause-bound : goal.returns-in-Periodic-clause-bound
returns-in-Periodic-clause-bound c =
    below_found Periodic c.args.table.now c.tolerance-in-Periodic.result (sym c.mode.ensures.value ∙ c.in-Periodic.is) c.table_is_valid.ensures
    c.tolerance-in-Periodic.ensures.alone c.tolerance-in-Periodic.ensures.greatest
