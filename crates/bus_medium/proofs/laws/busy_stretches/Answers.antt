use Rattle.bus_medium.proofs.BusyLaws.{entry_is_busy, busy_elapsed, busy_waiting, busy_nobody}
use Rattle.bus_medium.proofs.laws.busy_stretches.Goals as goal

pub returns : goal.returns
returns c = record { entry = entry_is_busy; elapsed = busy_elapsed; waiting = busy_waiting; nobody = busy_nobody }
