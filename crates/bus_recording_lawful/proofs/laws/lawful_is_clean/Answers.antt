use Rattle.bus_recording_lawful.proofs.Clean.{audited_clean, lawful_clean, table_clean}
use Rattle.bus_recording_lawful.proofs.laws.lawful_is_clean.Goals as goal

pub returns-clause-stations : goal.returns-clause-stations
returns-clause-stations c = lawful_clean c.keeping_is_clean.ensures.placed c.recordings_count_from_anywhere.ensures.moments

pub returns-clause-table : goal.returns-clause-table
returns-clause-table c = table_clean (lawful_clean c.keeping_is_clean.ensures.placed c.recordings_count_from_anywhere.ensures.moments)

pub returns-clause-audited : goal.returns-clause-audited
returns-clause-audited c =
    audited_clean (table_clean (lawful_clean c.keeping_is_clean.ensures.placed c.recordings_count_from_anywhere.ensures.moments)) c.lawful_is_observed.ensures.hands
