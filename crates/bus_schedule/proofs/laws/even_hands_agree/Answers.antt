use Rattle.bus_schedule.proofs.UnevenLemmas.{uneven_even}
use Rattle.bus_schedule.proofs.laws.even_hands_agree.Goals as goal

pub returns : goal.returns
returns c = uneven_even
