use Rattle.bus_dropout.proofs.RoundLemmas.{dropout_is_lawful}
use Rattle.bus_dropout.proofs.laws.dropout_is_lawful.Goals as goal

pub returns : goal.returns
returns c = dropout_is_lawful c.live_rounds.ensures.lawful c.one_lawful_list.ensures.once
