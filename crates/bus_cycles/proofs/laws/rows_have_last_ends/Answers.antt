use Rattle.bus_cycles.proofs.LastEndLemmas.{rows_are_counted, rows_have_last_ends, whole_are_counted}
use Rattle.bus_cycles.proofs.laws.rows_have_last_ends.Goals as goal

pub returns-clause-last_ends : goal.returns-clause-last_ends
returns-clause-last_ends c = rows_have_last_ends

pub returns-clause-count : goal.returns-clause-count
returns-clause-count c = rows_are_counted

pub returns-clause-whole : goal.returns-clause-whole
returns-clause-whole c = whole_are_counted
