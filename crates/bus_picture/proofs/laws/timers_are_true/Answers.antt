use Rattle.bus_picture.proofs.AllGapLemmas.{gaps_are_all}
use Rattle.bus_picture.proofs.GapLemmas.{gaps_are_true, last_gaps_are_true}
use Rattle.bus_picture.proofs.IntervalLemmas.{intervals_are_all, intervals_are_true, last_intervals_are_true, sync_gaps_are_true}
use Rattle.bus_picture.proofs.laws.timers_are_true.Goals as goal

pub returns-clause-gaps : goal.returns-clause-gaps
returns-clause-gaps c = gaps_are_true c.sents_are_told.ensures

pub returns-clause-last_gaps : goal.returns-clause-last_gaps
returns-clause-last_gaps c = last_gaps_are_true

pub returns-clause-all_gaps : goal.returns-clause-all_gaps
returns-clause-all_gaps c = gaps_are_all c.sents_are_told.ensures

pub returns-clause-intervals : goal.returns-clause-intervals
returns-clause-intervals c = intervals_are_true c.sents_are_told.ensures

pub returns-clause-last_intervals : goal.returns-clause-last_intervals
returns-clause-last_intervals c = last_intervals_are_true

pub returns-clause-all_intervals : goal.returns-clause-all_intervals
returns-clause-all_intervals c = intervals_are_all

pub returns-clause-sync_gaps : goal.returns-clause-sync_gaps
returns-clause-sync_gaps c = sync_gaps_are_true c.sents_are_told.ensures
