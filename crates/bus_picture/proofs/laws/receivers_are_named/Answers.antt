use Rattle.bus_picture.proofs.TakingLawLemmas.{named_receive, receives_strings}
use Rattle.bus_picture.proofs.laws.receivers_are_named.Goals as goal

pub returns-clause-named : goal.returns-clause-named
returns-clause-named c = named_receive

pub returns-clause-strings : goal.returns-clause-strings
returns-clause-strings c = receives_strings
