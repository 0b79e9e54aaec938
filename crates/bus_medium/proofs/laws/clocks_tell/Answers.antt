use Rattle.bus_medium.proofs.CableClocks.{clock_tells}
use Rattle.bus_medium.proofs.CableSteps.{known_start, known_step, known_lawful}
use Rattle.bus_medium.proofs.laws.clocks_tell.Goals as goal

pub returns : goal.returns
returns c = record {
  start = known_start;
  due = clock_tells;
  step = known_step;
  lawful = known_lawful;
}
