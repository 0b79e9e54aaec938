use Rattle.bus_clocks.proofs.Needs.{first_is_needed, opening_is_needed}
use Rattle.bus_clocks.proofs.NeedSync.{joining_is_needed, sync_is_needed}
use Rattle.bus_clocks.proofs.NeedTurns.{turns_are_needed}
use Rattle.bus_clocks.proofs.laws.room_is_needed.Goals as goal

pub returns-clause-first : goal.returns-clause-first
returns-clause-first c = first_is_needed

pub returns-clause-opening : goal.returns-clause-opening
returns-clause-opening c = opening_is_needed

pub returns-clause-sync : goal.returns-clause-sync
returns-clause-sync c = sync_is_needed

pub returns-clause-joining : goal.returns-clause-joining
returns-clause-joining c = joining_is_needed

pub returns-clause-turns : goal.returns-clause-turns
returns-clause-turns c = turns_are_needed
