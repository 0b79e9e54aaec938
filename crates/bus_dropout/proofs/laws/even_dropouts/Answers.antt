use Rattle.bus_dropout.proofs.LongLemmas.{even_dropout_is_closed, even_hands_are_long}
use Rattle.bus_dropout.proofs.laws.even_dropouts.Goals as goal

pub returns-clause-closed : goal.returns-clause-closed
returns-clause-closed c = even_dropout_is_closed c.live_rounds.ensures.even

pub returns-clause-long : goal.returns-clause-long
returns-clause-long c = even_hands_are_long
