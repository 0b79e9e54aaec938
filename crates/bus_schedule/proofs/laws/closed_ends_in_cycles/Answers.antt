use Rattle.bus_schedule.proofs.CycleEnds.{closed_ends_in_cycles}
use Rattle.bus_schedule.proofs.laws.closed_ends_in_cycles.Goals as goal

pub returns : goal.returns
returns c = closed_ends_in_cycles
