use Rattle.bus_medium.proofs.Steps.{idle_stretch, lone_start}
use Rattle.bus_medium.proofs.laws.lawful_turns.Goals as goal

pub returns : goal.returns
returns c = record {
  idle = idle_stretch;
  lone = lone_start;
}
