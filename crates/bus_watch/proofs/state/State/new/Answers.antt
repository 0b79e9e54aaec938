use Rattle.bus_watch.proofs.StateLemmas.{state_new}
use Rattle.bus_watch.proofs.state.State.new.Goals as goal

pub returns-clause-state : goal.returns-clause-state
returns-clause-state c = state_new
