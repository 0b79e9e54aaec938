use Rattle.bus_vote.proofs.RunLemmas.{runs_are_voted}
use Rattle.bus_vote.proofs.laws.runs_are_voted.Goals as goal

pub returns : goal.returns
returns c = runs_are_voted c.accepted_is_closed.ensures
