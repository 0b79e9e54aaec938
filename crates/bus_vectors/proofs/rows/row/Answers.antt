use Rattle.std.proofs.Common.{ap, sym, ◌∙◌, Some}
use Rattle.bus_vectors.specs.Rows.{two_senders, short_gap, two_offsets, small_gap, no_sync, no_messages, one_each, silent_run, run, report, row_of}
use Rattle.bus_vectors.proofs.rows.row.Goals as goal

pub returns-in-1-clause-is : goal.returns-in-1-clause-is
unfolding two_senders
returns-in-1-clause-is c = ap Some c.checked.ensures ∙ sym (ap row_of c.in-1.is)

pub returns-in-4-clause-is : goal.returns-in-4-clause-is
unfolding short_gap
returns-in-4-clause-is c = sym (ap row_of c.in-4.is)

pub returns-in-7-clause-is : goal.returns-in-7-clause-is
unfolding no_messages silent_run
returns-in-7-clause-is c = ap Some c.ran.ensures ∙ sym (ap row_of c.in-7.is)

pub returns-in-10-clause-is : goal.returns-in-10-clause-is
unfolding two_offsets
returns-in-10-clause-is c = ap Some c.checked-in-10.ensures ∙ sym (ap row_of c.in-10.is)

pub returns-in-11-clause-is : goal.returns-in-11-clause-is
unfolding small_gap
returns-in-11-clause-is c = ap Some c.checked-in-11.ensures ∙ sym (ap row_of c.in-11.is)

pub returns-in-13-clause-is : goal.returns-in-13-clause-is
unfolding no_sync
returns-in-13-clause-is c = ap Some c.checked-in-13.ensures ∙ sym (ap row_of c.in-13.is)

pub returns-in-16-clause-is : goal.returns-in-16-clause-is
unfolding one_each run
returns-in-16-clause-is c = ap Some c.ran-in-16.ensures ∙ sym (ap row_of c.in-16.is)

pub returns-in-28-clause-is : goal.returns-in-28-clause-is
unfolding two_senders report
returns-in-28-clause-is c = sym (ap row_of c.in-28.is)
