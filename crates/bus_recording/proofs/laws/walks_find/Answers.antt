use Rattle.bus_recording.proofs.LateWalk.{walk_finds_due, walk_finds_elapsed, walk_finds_not_due}
use Rattle.bus_recording.proofs.SyncWalk.{walk_finds_no_sync, walk_finds_sync}
use Rattle.bus_recording.proofs.laws.walks_find.Goals as goal

pub returns-clause-sync : goal.returns-clause-sync
returns-clause-sync c = walk_finds_sync

pub returns-clause-no_sync : goal.returns-clause-no_sync
returns-clause-no_sync c = walk_finds_no_sync

pub returns-clause-due : goal.returns-clause-due
returns-clause-due c = walk_finds_due

pub returns-clause-not_due : goal.returns-clause-not_due
returns-clause-not_due c = walk_finds_not_due

pub returns-clause-elapsed : goal.returns-clause-elapsed
returns-clause-elapsed c = walk_finds_elapsed
