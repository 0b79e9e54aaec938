use Rattle.bus_tool.proofs.FoundLawfulLemmas.{observed_is_found_lawful, run_is_found_lawful, drop_is_found_lawful}
use Rattle.bus_tool.proofs.laws.audit_accepts_what_is_observed.Goals as goal

pub returns-clause-observed : goal.returns-clause-observed
returns-clause-observed c = observed_is_found_lawful c.observed_is_lawful.ensures.right c.fitting_items_give_hands.ensures c.senders_have_holds.ensures

pub returns-clause-run : goal.returns-clause-run
returns-clause-run c = run_is_found_lawful (observed_is_found_lawful c.observed_is_lawful.ensures.right c.fitting_items_give_hands.ensures c.senders_have_holds.ensures)

pub returns-clause-drop : goal.returns-clause-drop
returns-clause-drop c = drop_is_found_lawful (observed_is_found_lawful c.observed_is_lawful.ensures.right c.fitting_items_give_hands.ensures c.senders_have_holds.ensures)
