use Rattle.bus_made.proofs.Meant.{answers_are_meant}
use Rattle.bus_made.proofs.laws.answers_are_meant.Goals as goal

pub returns : goal.returns
returns c = answers_are_meant
