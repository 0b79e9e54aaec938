use Rattle.bus_recording_lawful.proofs.Audited.{audit_told}
use Rattle.bus_recording_lawful.proofs.Whole.{lawful_told}
use Rattle.bus_recording_lawful.proofs.laws.lawful_is_told.Goals as goal

pub returns-clause-list : goal.returns-clause-list
returns-clause-list c = lawful_told c.lawful_is_clean.ensures.stations c.clean_starts_are_allowed.ensures

pub returns-clause-audit : goal.returns-clause-audit
returns-clause-audit c =
    audit_told (lawful_told c.lawful_is_clean.ensures.stations c.clean_starts_are_allowed.ensures) c.lawful_is_observed.ensures.hands c.observed_is_lawful.ensures.clean
